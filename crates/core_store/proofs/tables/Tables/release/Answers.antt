use Rattle.std.proofs.Common.{List, ap, ◌∙◌}
use Rattle.std.specs.Prelude.{◌==◌, ◌++◌, if◌then◌else◌}
use Rattle.ref_tables.specs.declared.kind.TempRef.{TempRef}
use Rattle.ref_tables.specs.Refs.{entries_of}
use Rattle.store_model.specs.Steps.{held_ids}
use Rattle.core_store.specs.References.{targets_of}
use Rattle.core_store.specs.Views.{view_of}
use Rattle.core_store.proofs.MapLaws.{on_err}
use Rattle.core_store.proofs.RoomLaws.{room-taken}
use Rattle.core_store.proofs.HandlerLaws.{does-release}
use Rattle.core_store.proofs.tables.Tables.release.Goals as goal

pub drop_shared-requires : goal.drop_shared-requires
drop_shared-requires g c = c.requires.ready.1.granted.2.1

pub returns-clause-ok : goal.returns-clause-ok
returns-clause-ok g c = λ held.
    does-release (view_of c.args.self.now) held c.args.pass c.drop_shared.new.self (λ p. targets_of (entries_of c.note_held.new.references p)) c.args.id c.registers-registers.result c.drop_shared.ensures c.registers-registers.ensures
    (λ p. c.note_held.ensures p ∙ ap (λ (es : List TempRef). if p == c.args.pass then targets_of es ++ held_ids c.registers-registers.result else targets_of es) (c.reserve.ensures.same p))

pub returns-in_err-reserve-clause-err : goal.returns-in_err-reserve-clause-err
returns-in_err-reserve-clause-err g c = on_err c.from_residual.result _ (room-taken c.args.self.now c.reserve.new.self c.reserve.ensures.same)
