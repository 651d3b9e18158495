use Rattle.std.proofs.Common.{rules, ◌≡◌, ◌++◌, [], ◌∷◌, List, sym, ap, subst, ◌∙◌, arith}
use Rattle.std.specs.List.{AllByRecursion}
use Rattle.std.specs.Io.KnownBytes.{Appends}
use Rattle.std.proofs.lemmas.List.{append-nil, append_assoc}
use Rattle.plain_model.specs.Text.{text_of}
use Rattle.core_store.specs.declared.note.Note.{Note}
use Rattle.brahma_shell.specs.Points.{entries_in}
use Rattle.brahma_shell.specs.Telling.{IsNoCrash}
use Rattle.brahma_shell.proofs.TellLemmas.{no-crash_first, appends-more, front-more}
use Rattle.brahma_shell.proofs.telling.print_notes.Goals as goal

pub notes-init : goal.notes-init
notes-init g c =
    let all : c.into_iter-note-iterator.result ≡ c.args.notes.now.list = c.into_iter-note-iterator.ensures.into_iter_gives ∙ c.iter-note-items.ensures in
    record {
      whole = all;
      plain = subst (λ (ns : List Note). AllByRecursion IsNoCrash (entries_in ns)) (sym all) c.requires;
      written = search rules;
      later = omega (arith);
    }

pub print_entry-requires : goal.print_entry-requires
print_entry-requires g c = (no-crash_first c.in-Some.note c.notes.note-iterator c.next.new.self c.in-Some.ensures.steps c.notes.invariant.plain).0

pub notes-preserved : goal.notes-preserved
notes-preserved g c =
    let was = c.notes.invariant in
    let note = c.in-Some.note in
    let is : c.notes.note-iterator ≡ note ∷ c.next.new.self = c.in-Some.ensures.steps in
    let later = c.print_entry.ensures.later in
    let before = was.later in
    record {
      whole = append_assoc c.notes.yielded (note ∷ []) c.next.new.self ∙ (ap (λ (ns : List Note). c.notes.yielded ++ ns) (sym is) ∙ was.whole);
      plain = (no-crash_first note c.notes.note-iterator c.next.new.self is was.plain).1;
      written = appends-more _ _ _ c.notes.yielded note was.written c.in-Ok.ensures.ok;
      later = omega (arith, later, before);
    }

pub returns-in-Err-clause-err : goal.returns-in-Err-clause-err
returns-in-Err-clause-err g c =
    let was = c.notes.invariant in
    let later = was.later in
    let e = c.in-Err.ensures.err in
    let rose = e.2 in
    (e.0, front-more _ _ _ c.notes.yielded c.notes.note-iterator c.next.new.self c.args.notes.now.list c.in-Some.note was.whole c.in-Some.ensures.steps was.written e.1, omega (arith, rose, later))

pub returns-clause-ok : goal.returns-clause-ok
returns-clause-ok g c =
    let was = c.notes.invariant in
    let none : c.notes.note-iterator ≡ [] = c.in-None.ensures.steps.0 in
    let all : c.notes.yielded ≡ c.args.notes.now.list = sym (append-nil c.notes.yielded) ∙ (ap (λ (ns : List Note). c.notes.yielded ++ ns) (sym none) ∙ was.whole) in
    subst (λ (ns : List Note). Appends (g.W.Sink.written c.args.out.now) (g.W.Sink.written c.notes.out) (text_of (entries_in ns))) all was.written
