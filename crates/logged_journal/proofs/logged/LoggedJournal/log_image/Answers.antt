use Rattle.std.proofs.Common.{◌∙◌, ◌*◌, ◌+◌, ◌<◌, ◌≤◌, ⊎_elim, ℕ, List, sym, ap, subst, arith, rules}
use Rattle.plain_model.specs.History.{end_of}
use Rattle.cell_page.specs.Stored.{HoldsPage}
use Rattle.log_record.specs.declared.record.Record.TheVariants.{Image}
use Rattle.log_record.specs.Spelling.{record_bytes}
use Rattle.gate_log.specs.Batches.{most_bytes}
use Rattle.gate_log.specs.State.{LogState, used}
use Rattle.core_store.specs.JournalView.{cells_of}
use Rattle.core_store.specs.Owed.{bytes_owed}
use Rattle.logged_journal.specs.Inside.{view_of}
use Rattle.logged_journal.specs.View.{LoggedView, bytes_counted, image_bytes}
use Rattle.logged_journal.proofs.Upkeeps.{kept-imaged}
use Rattle.logged_journal.proofs.logged.LoggedJournal.log_image.Goals as goal
use Rattle.std.proofs.lemmas.List.{length-append}

pub append_image-requires : goal.append_image-requires
append_image-requires g c =
    let small : g.row.SLOTS ≤ 14 = ⊎_elim (λ six. omega arith) (λ fourteen. omega arith) c.self.invariant.size in
    let running = ap (λ (w : LoggedView g.row.D.Denot). w.failed) c.self.view_is ∙ c.requires.running in
    let stands = c.self.invariant.kept.standing running in
    let there = subst (λ (w : LoggedView g.row.D.Denot). 8 * c.args.page < w.journal.history.ids) (sym c.self.view_is) c.requires.page in
    let many = c.self.invariant.kept.many in
    let enough = subst (λ (w : LoggedView g.row.D.Denot). bytes_owed (end_of w.journal.history) + image_bytes g.row.SLOTS ≤ w.log.room) (sym c.self.view_is) c.requires.room in
    let fits = subst (λ (w : LoggedView g.row.D.Denot). bytes_counted w + image_bytes g.row.SLOTS ≤ most_bytes) (sym c.self.view_is) c.requires.bounded in
    (search rules, (c.self.invariant.size, (c.requires.agree.rules, (omega (arith, there, many), (stands.stage, (omega (arith, enough), (omega (arith, fits), c.self.invariant.spelling)))))))

pub overflow_add-used : goal.overflow_add-used
overflow_add-used g c =
    let bytes : List ℕ = record_bytes (Image c.args.page c.args.frame.now.page) in
    let log = c.append_image.ensures.log in
    let in-use = c.used.ensures ∙ ap (λ (l : LogState). used l) log in
    let owed = c.bytes_owed.ensures.value in
    let long = length-append c.self.inside.log.tail bytes in
    let size = c.append_image.ensures.long in
    let fits = subst (λ (w : LoggedView g.row.D.Denot). bytes_counted w + image_bytes g.row.SLOTS ≤ most_bytes) (sym c.self.view_is) c.requires.bounded in
    omega (arith, in-use, owed, long, size, fits)

pub invariant_of-self : goal.invariant_of-self
invariant_of-self g c =
    let v = view_of c.self.inside in
    let bytes : List ℕ = record_bytes (Image c.args.page c.args.frame.now.page) in
    let running = ap (λ (w : LoggedView g.row.D.Denot). w.failed) c.self.view_is ∙ c.requires.running in
    let there = subst (λ (w : LoggedView g.row.D.Denot). 8 * c.args.page < w.journal.history.ids) (sym c.self.view_is) c.requires.page in
    let enough = subst (λ (w : LoggedView g.row.D.Denot). bytes_owed (end_of w.journal.history) + image_bytes g.row.SLOTS ≤ w.log.room) (sym c.self.view_is) c.requires.room in
    let fits = subst (λ (w : LoggedView g.row.D.Denot). bytes_counted w + image_bytes g.row.SLOTS ≤ most_bytes) (sym c.self.view_is) c.requires.bounded in
    let size = c.append_image.ensures.long in
    let long = length-append c.self.inside.log.tail bytes in
    let in-use = c.used.ensures ∙ ap (λ (l : LogState). used l) c.append_image.ensures.log in
    let owed = c.bytes_owed.ensures.value in
    let peak = c.max-self-inside.ensures in
    record {
      size = c.self.invariant.size;
      own = c.self.invariant.own;
      spelling = c.append_image.ensures.spelling;
      counted = c.self.invariant.counted;
      kept = kept-imaged g.D.Disk.may_leave g.row.SLOTS v c.args.page c.args.frame.now.page c.append_image.new.marks c.append_image.new.log c.max-self-inside.result c.self.invariant.own c.self.invariant.kept running there
          c.append_image.ensures.typed (subst (λ (w : LoggedView g.row.D.Denot). HoldsPage (cells_of w.journal) c.args.page c.args.frame.now.page) (sym c.self.view_is) c.requires.agree) c.append_image.ensures.marks
          (omega (arith, enough, size)) (omega (arith, fits, size)) (omega (arith, peak)) (omega (arith, peak, in-use, owed, long)) c.append_image.ensures.log;
    }

pub returns-clause-long : goal.returns-clause-long
returns-clause-long g c =
    let bytes : List ℕ = record_bytes (Image c.args.page c.args.frame.now.page) in
    let size = c.append_image.ensures.long in
    let long = length-append c.self.inside.log.tail bytes in
    let in-use = ap (λ (l : LogState). used l) c.append_image.ensures.log in
    let before = ap (λ (w : LoggedView g.row.D.Denot). bytes_counted w) c.self.view_is in
    omega (arith, size, long, in-use, before)
