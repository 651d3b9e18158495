use Rattle.std.proofs.Common.{◌≡◌, ℕ, List, [], ◌++◌, Err, ap, sym, subst, ◌∙◌, refl, append_assoc}
use Rattle.std.proofs.lemmas.List.{append-nil}
use Rattle.opened_images.specs.LogRecords.{IsRecordLog}
use Rattle.log_printing.specs.declared.view_refusal.ViewRefusal.TheVariants.{Damaged}
use Rattle.log_printing.specs.Text.{text_of}
use Rattle.log_printing.proofs.text.log_text.Goals as goal

pub returns-in-Err-clause-damaged : goal.returns-in-Err-clause-damaged
returns-in-Err-clause-damaged g c at is =
    let refused : c.in-Err.refusal ≡ Damaged at = cc is in
    c.in-Err.ensures.damaged at (ap Err refused)

pub lines-init : goal.lines-init
lines-init g c =
    let t = c.in-Ok.ensures.text in
    (c.args.pages, t.0, text_of c.args.pages t.0, refl, t.1, ap (λ (l : List ℕ). l ++ text_of c.args.pages t.0) (sym c.new-bytes.ensures.items), t.2)

pub lines-preserved : goal.lines-preserved
lines-preserved g c =
    let i = c.lines.invariant in
    let n = c.in-Some.ensures.next i.2 i.6 in
    let bytes : List ℕ = c.lines.bytes.items in
    let line : List ℕ = c.in-Some.line.bytes in
    let grown : c.extend_from_slice.new.self.items ≡ bytes ++ line =
    c.in_ok-extend_from_slice.ensures.items ∙ ap (λ (l : List ℕ). bytes ++ l) (c.as_bytes.ensures.value ∙ c.as_str.ensures.value) in (
      i.0,
      i.1,
      n.0,
      i.3,
      i.4,
      i.5 ∙ ap (λ (l : List ℕ). bytes ++ l) n.1 ∙ sym (append_assoc bytes line n.0) ∙ ap (λ (l : List ℕ). l ++ n.0) (sym grown),
      n.2,
    )

pub returns-clause-text : goal.returns-clause-text
returns-clause-text g c =
    let i = c.lines.invariant in
    let none : i.2 ≡ [] = c.in_default.ensures.next i.2 i.6 in
    let bytes : List ℕ = c.lines.bytes.items in (
      i.1,
      subst (λ (n : ℕ). IsRecordLog n i.1 c.args.area.now) i.3 i.4,
      sym (append-nil bytes) ∙ ap (λ (l : List ℕ). bytes ++ l) (sym none) ∙ sym i.5 ∙ ap (λ (n : ℕ). text_of n i.1) i.3,
    )
