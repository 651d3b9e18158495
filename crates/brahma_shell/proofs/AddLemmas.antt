-- What is added to the scripts.
use Rattle.std.proofs.Common.{◌≡◌, ℕ, List, [], ◌∷◌, ◌++◌, length, get_or, set, slice_set, slice_index_or, Result, Ok, Err, OnOk, OnErr, true, sym, ap, subst, ◌∙◌}
use Rattle.std.specs.Prelude.{IfErr}
use Rattle.std.proofs.lemmas.Result.{IfErr-weaker}
use Rattle.std.proofs.Math.Seq.{set-append_seam, get_or-append_seam}
use Rattle.plain_model.specs.declared.calls.Call.{Call}
use Rattle.plain_model.specs.Machine.{IsInRange}
use Rattle.script_lines.specs.Grammar.{IsClient}
use Rattle.client_pass.specs.declared.script.ClientScript.{ClientScript}
use Rattle.client_pass.specs.Runs.{IsNobody}
use Rattle.script_lines.specs.Numbers.{object_slots}
use Rattle.brahma_shell.specs.declared.line_refusal.LineRefusal.{LineRefusal}
use Rattle.brahma_shell.specs.declared.line_refusal.LineRefusal.TheVariants.{Memory}
use Rattle.brahma_shell.specs.LineOrder.{is_first, is_between, MayFollow}
use Rattle.brahma_shell.specs.ClientScripts.{all_calls, AreScripts, AreOfCalls, IsExtended, TellsWhether, with_call_more, begun, ExtendsAt, TellsAt, IsAt}
use Rattle.brahma_shell.proofs.EveryElement.{every-one}
use Rattle.brahma_shell.proofs.ScriptLemmas.{joined, scripts-joined, extended, scripts-extended}

-- ---- a script that is changed where it stands

-- what is read at the place is the script there
read-at : (old before after : List ClientScript) (s : ClientScript) (place : ℕ) (item : ClientScript) → item ≡ slice_index_or old place item → old ≡ before ++ s ∷ after → length before ≡ place → item ≡ s
read-at old before after s place item is e l =
    is ∙ ap (λ (xs : List ClientScript). get_or xs place item) e ∙ ap (λ (n : ℕ). get_or (before ++ s ∷ after) n item) (sym l) ∙ get_or-append_seam before s after item

pub extends-at : (old : List ClientScript) (place : ℕ) (call : Call) (item : ClientScript) (txns : List (List Call)) → item ≡ slice_index_or old place item → MayFollow (all_calls item.txns) call × IsExtended item.txns call txns → ExtendsAt old place call (slice_set old place (record { pass = item.pass; txns = txns }))
extends-at old place call item txns is added before after s e l =
    let same = read-at old before after s place item is e l in
    let new : ClientScript = record { pass = item.pass; txns = txns } in
    let is_set = ap (λ (xs : List ClientScript). set xs place new) e ∙ ap (λ (n : ℕ). set (before ++ s ∷ after) n new) (sym l) ∙ set-append_seam before s after new in (
      subst (λ (x : ClientScript). MayFollow (all_calls x.txns) call) same added.0,
      txns,
      is_set ∙ ap (λ (x : ClientScript). before ++ record { pass = x.pass; txns = txns } ∷ after) same,
      subst (λ (x : ClientScript). IsExtended x.txns call txns) same added.1,
    )

pub tells-at : {T : Type 0} (r : Result T LineRefusal) (old : List ClientScript) (place : ℕ) (call : Call) (item : ClientScript) → item ≡ slice_index_or old place item → IfErr r (λ e. TellsWhether e (MayFollow (all_calls item.txns) call)) → IfErr r (λ e. TellsAt old place call e)
tells-at (Ok x) old place call item is tells = tt
tells-at (Err x) old place call item is tells = λ before after s e l. subst (λ (i : ClientScript). TellsWhether x (MayFollow (all_calls i.txns) call)) (read-at old before after s place item is e l) tells

pub kept-at : {T E : Type 0} (r : Result T E) (client : ℕ) (old : List ClientScript) (place : ℕ) (call : Call) (new : List ClientScript) → AreScripts old → IsInRange object_slots call → IsAt client old place → OnOk r (ExtendsAt old place call new) → OnErr r (new ≡ old) → AreScripts new
kept-at (Ok x) client old place call new a range at added same =
    let e = added at.0 at.2 at.1 at.3 at.4 in
    subst AreScripts (sym e.2) (scripts-extended at.0 at.1 at.2 e.1 (subst AreScripts at.3 a) e.3.transactions (λ o. e.3.in_range o range))
kept-at (Err x) client old place call new a range at added same = subst AreScripts (sym same) a

pub added-at : (client : ℕ) (was old : List ClientScript) (place : ℕ) (call : Call) (new : List ClientScript) → old ≡ was → AreScripts old → IsAt client old place → ExtendsAt old place call new → (calls : ℕ → List Call) → AreOfCalls calls was → MayFollow (calls client) call × AreOfCalls (with_call_more calls client call) new
added-at client was old place call new view a at added calls of =
    let e = added at.0 at.2 at.1 at.3 at.4 in
    let there = subst (AreOfCalls calls) (sym view ∙ at.3) of in
    let own : calls at.1.pass ≡ all_calls at.1.txns = every-one (λ (s : ClientScript). calls s.pass ≡ all_calls s.txns) at.0 at.1 at.2 there.each in
    let is = extended calls call at.0 at.1 at.2 e.1 there (subst AreScripts at.3 a).apart e.3.calls in
    (e.0 ∙ ap is_between (sym (ap calls (sym at.5) ∙ own)), subst (AreOfCalls (with_call_more calls client call)) (sym e.2) (subst (λ (c : ℕ). AreOfCalls (with_call_more calls c call) (at.0 ++ record { pass = at.1.pass; txns = e.1 } ∷ at.2)) at.5 is))

pub refused-at : {T : Type 0} (r : Result T LineRefusal) (client : ℕ) (was old : List ClientScript) (place : ℕ) (call : Call) → old ≡ was → IsAt client old place → IfErr r (λ e. TellsAt old place call e) → IfErr r (λ e. (calls : ℕ → List Call) → AreOfCalls calls was → TellsWhether e (MayFollow (calls client) call))
refused-at (Ok x) client was old place call view at tells = tt
refused-at (Err x) client was old place call view at tells = λ calls of.
    let there = subst (AreOfCalls calls) (sym view ∙ at.3) of in
    let own : calls at.1.pass ≡ all_calls at.1.txns = every-one (λ (s : ClientScript). calls s.pass ≡ all_calls s.txns) at.0 at.1 at.2 there.each in
    subst (λ (cs : List Call). TellsWhether x (MayFollow cs call)) (sym (ap calls (sym at.5) ∙ own)) (tells at.0 at.2 at.1 at.3 at.4)

-- ---- a script that joins

pub kept-first : {T E : Type 0} (r : Result T E) (client : ℕ) (old : List ClientScript) (call : Call) (new : List ClientScript) → AreScripts old → IsNobody client old → IsClient client → OnOk r ((is_first call ≡ true) × (new ≡ old ++ begun client ∷ [])) → OnErr r (new ≡ old) → AreScripts new
kept-first (Ok x) client old call new a nobody is added same = subst AreScripts (sym added.1) (scripts-joined client old a nobody is)
kept-first (Err x) client old call new a nobody is added same = subst AreScripts (sym same) a

pub added-first : (client : ℕ) (was old : List ClientScript) (call : Call) (new : List ClientScript) → old ≡ was → IsNobody client old → (is_first call ≡ true) × (new ≡ old ++ begun client ∷ []) → (calls : ℕ → List Call) → AreOfCalls calls was → MayFollow (calls client) call × AreOfCalls (with_call_more calls client call) new
added-first client was old call new view nobody added calls of =
    let there = subst (AreOfCalls calls) (sym view) of in
    (added.0 ∙ ap is_between (sym (there.nobody client nobody)), subst (AreOfCalls (with_call_more calls client call)) (sym added.1) (joined calls client call old there nobody added.0))

pub refused-first : {T : Type 0} (r : Result T LineRefusal) (client : ℕ) (was old : List ClientScript) (call : Call) → old ≡ was → IsNobody client old → IfErr r (λ e. TellsWhether e (is_first call ≡ true)) → IfErr r (λ e. (calls : ℕ → List Call) → AreOfCalls calls was → TellsWhether e (MayFollow (calls client) call))
refused-first (Ok x) client was old call view nobody tells = tt
refused-first (Err x) client was old call view nobody tells = λ calls of.
    let there = subst (AreOfCalls calls) (sym view) of in
    subst (λ (cs : List Call). TellsWhether x (MayFollow cs call)) (sym (there.nobody client nobody)) tells

-- ---- want of memory

-- memory was out where this may be
pub out-of_memory : {T : Type 0} (r : Result T LineRefusal) (may : Type 0) → may → IfErr r (λ e. e ≡ Memory) → IfErr r (λ e. TellsWhether e may)
out-of_memory r may is out = IfErr-weaker r (λ e. e ≡ Memory) (λ e. TellsWhether e may) (λ e m. subst (λ (x : LineRefusal). TellsWhether x may) (sym m) is) out
