-- Scripts with one call more.
use Rattle.std.proofs.Common.{◌≡◌, ◌≢◌, inr, ℕ, Bool, true, false, List, [], ◌∷◌, ◌++◌, length, ◌≤◌, refl, sym, ap, ◌∙◌}
use Rattle.std.specs.Prelude.{◌==◌, if◌then◌else◌}
use Rattle.std.specs.List.{AllByRecursion}
use Rattle.std.proofs.lemmas.Bool.{ne_eqb, eqb-false}
use Rattle.std.proofs.lemmas.List.{append-nil}
use Rattle.plain_model.specs.declared.calls.Call.{Call}
use Rattle.script_lines.specs.Grammar.{IsClient}
use Rattle.client_pass.specs.declared.script.ClientScript.{ClientScript}
use Rattle.client_pass.specs.Scripts.{AreInRange}
use Rattle.client_pass.specs.Runs.{IsNobody, AreApart}
use Rattle.client_pass.proofs.FewScripts.{few-scripts}
use Rattle.script_lines.specs.Numbers.{object_slots}
use Rattle.brahma_shell.specs.LineOrder.{is_first}
use Rattle.brahma_shell.specs.ClientScripts.{all_calls, AreTransactions, IsScript, AreScripts, AreOfCalls, with_call_more, begun}
use Rattle.brahma_shell.proofs.EveryElement.{every-push, every-join, every-first, every-one, every-rest}
use Rattle.brahma_shell.proofs.CallLemmas.{begins-is}

-- ---- the calls of clients

eq-self : (n : ℕ) → (n == n) ≡ true
eq-self n = by (n == n) refl
  where
    by : (b : Bool) → (n == n) ≡ b → (n == n) ≡ true
    by true e = e
    by false e = absurd (eqb-false n n e refl)

with-own : (calls : ℕ → List Call) (client : ℕ) (call : Call) → with_call_more calls client call client ≡ calls client ++ call ∷ []
with-own calls client call = ap (λ (b : Bool). calls client ++ (if b then call ∷ [] else [])) (eq-self client)

with-other : (calls : ℕ → List Call) (client : ℕ) (call : Call) (c : ℕ) → client ≢ c → with_call_more calls client call c ≡ calls c
with-other calls client call c n = ap (λ (b : Bool). calls c ++ (if b then call ∷ [] else [])) (ne_eqb client c n) ∙ append-nil (calls c)

-- the other scripts are what they were
others : (calls : ℕ → List Call) (client : ℕ) (call : Call) (xs : List ClientScript) → AllByRecursion (λ s. calls s.pass ≡ all_calls s.txns) xs → IsNobody client xs → AllByRecursion (λ s. with_call_more calls client call s.pass ≡ all_calls s.txns) xs
others calls client call [] a n = tt
others calls client call (x ∷ xs) a n = (with-other calls client call x.pass (λ e. n.0 (sym e)) ∙ a.0, others calls client call xs a.1 n.1)

-- ---- a client that comes first

pub joined : (calls : ℕ → List Call) (client : ℕ) (call : Call) (scripts : List ClientScript) → AreOfCalls calls scripts → IsNobody client scripts → is_first call ≡ true → AreOfCalls (with_call_more calls client call) (scripts ++ begun client ∷ [])
joined calls client call scripts a nobody e = record {
  each = every-push (λ (s : ClientScript). with_call_more calls client call s.pass ≡ all_calls s.txns) scripts (begun client) (others calls client call scripts a.each nobody)
      (with-own calls client call ∙ ap (λ (xs : List Call). xs ++ call ∷ []) (a.nobody client nobody) ∙ ap (λ (x : Call). x ∷ []) (begins-is call e));
  nobody = λ c n. with-other calls client call c (every-one (λ (s : ClientScript). s.pass ≢ c) scripts (begun client) [] n) ∙ a.nobody c (every-first (λ (s : ClientScript). s.pass ≢ c) scripts (begun client) [] n);
}

apart-push : (xs : List ClientScript) (s : ClientScript) → AreApart xs → IsNobody s.pass xs → AreApart (xs ++ s ∷ [])
apart-push [] s a n = (tt, tt)
apart-push (x ∷ xs) s a n = (every-push (λ (y : ClientScript). y.pass ≢ x.pass) xs s a.0 (λ e. n.0 (sym e)), apart-push xs s a.1 n.1)

pub scripts-joined : (client : ℕ) (scripts : List ClientScript) → AreScripts scripts → IsNobody client scripts → IsClient client → AreScripts (scripts ++ begun client ∷ [])
scripts-joined client scripts a nobody is = record {
  each = every-push IsScript scripts (begun client) a.each (record {
    client = is;
    transactions = record { before = []; last = []; in_order = refl; ended = tt; last_is = inr tt };
    in_range = (tt, tt);
  });
  apart = apart-push scripts (begun client) a.apart nobody;
}

-- ---- a client that goes on

first-apart : (before : List ClientScript) (s : ClientScript) (after : List ClientScript) → AreApart (before ++ s ∷ after) → IsNobody s.pass before
first-apart [] s after a = tt
first-apart (b ∷ before) s after a = ((λ e. every-one (λ (y : ClientScript). y.pass ≢ b.pass) before s after a.0 (sym e)), first-apart before s after a.1)

rest-apart : (before : List ClientScript) (s : ClientScript) (after : List ClientScript) → AreApart (before ++ s ∷ after) → IsNobody s.pass after
rest-apart [] s after a = a.0
rest-apart (b ∷ before) s after a = rest-apart before s after a.1

pub extended : (calls : ℕ → List Call) (call : Call) (before : List ClientScript) (s : ClientScript) (after : List ClientScript) (txns : List (List Call)) → AreOfCalls calls (before ++ s ∷ after) → AreApart (before ++ s ∷ after) → all_calls txns ≡ all_calls s.txns ++ call ∷ [] → AreOfCalls (with_call_more calls s.pass call) (before ++ record { pass = s.pass; txns = txns } ∷ after)
extended calls call before s after txns a apart e =
    let Had = λ (x : ClientScript). calls x.pass ≡ all_calls x.txns in
    record {
      each = every-join (λ (x : ClientScript). with_call_more calls s.pass call x.pass ≡ all_calls x.txns) before (record { pass = s.pass; txns = txns }) after
          (others calls s.pass call before (every-first Had before s after a.each) (first-apart before s after apart))
          (with-own calls s.pass call ∙ ap (λ (xs : List Call). xs ++ call ∷ []) (every-one Had before s after a.each) ∙ sym e)
          (others calls s.pass call after (every-rest Had before s after a.each) (rest-apart before s after apart));
      nobody = λ c n.
          let Not = λ (x : ClientScript). x.pass ≢ c in
          let new : ClientScript = record { pass = s.pass; txns = txns } in
          let other : s.pass ≢ c = every-one Not before new after n in
          with-other calls s.pass call c other ∙ a.nobody c (every-join Not before s after (every-first Not before new after n) other (every-rest Not before new after n));
    }

apart-same : (before : List ClientScript) (s : ClientScript) (after : List ClientScript) (txns : List (List Call)) → AreApart (before ++ s ∷ after) → AreApart (before ++ record { pass = s.pass; txns = txns } ∷ after)
apart-same [] s after txns a = a
apart-same (b ∷ before) s after txns a =
    let Not = λ (x : ClientScript). x.pass ≢ b.pass in
    (every-join Not before (record { pass = s.pass; txns = txns }) after (every-first Not before s after a.0) (every-one Not before s after a.0) (every-rest Not before s after a.0), apart-same before s after txns a.1)

pub scripts-extended : (before : List ClientScript) (s : ClientScript) (after : List ClientScript) (txns : List (List Call)) → AreScripts (before ++ s ∷ after) → AreTransactions txns → (AreInRange object_slots s.txns → AreInRange object_slots txns) → AreScripts (before ++ record { pass = s.pass; txns = txns } ∷ after)
scripts-extended before s after txns a ts range =
    let own = every-one IsScript before s after a.each in
    record {
      each = every-join IsScript before (record { pass = s.pass; txns = txns }) after (every-first IsScript before s after a.each) (record { client = own.client; transactions = ts; in_range = range own.in_range }) (every-rest IsScript before s after a.each);
      apart = apart-same before s after txns a.apart;
    }

-- ---- how many there are

-- at most one for each client
pub few : (scripts : List ClientScript) → AreScripts scripts → length scripts ≤ 64
few scripts a = few-scripts scripts a.apart (clients scripts a.each)
  where
    clients : (xs : List ClientScript) → AllByRecursion IsScript xs → AllByRecursion (λ s. IsClient s.pass) xs
    clients [] h = tt
    clients (x ∷ xs) h = (h.0.client, clients xs h.1)
