use Rattle.disk_model.specs.declared.area.Area.TheVariants.{Pages}
use Rattle.restart_store.specs.Fresh.{store_of}
use Rattle.restart_store.proofs.Made.{made_leaves}
use Rattle.restart_store.proofs.Making.{of_ok, all_made}
use Rattle.restart_store.proofs.make.init_with.Goals as goal

pub returns-clause-images : goal.returns-clause-images
returns-clause-images g c =
    of_ok c.make.result (λ made. all_made g.D.Disk.may_leave c.make.new.disk (store_of c.args.pages.now 0) (λ area. made_leaves (made area))) c.make.ensures.made

pub returns-clause-pages : goal.returns-clause-pages
returns-clause-pages g c = of_ok c.make.result (λ made. made_leaves (made Pages)) c.make.ensures.made
