-- Lines of clients of which is seen which may come next, and what scripts they make.
use Rattle.std.proofs.Common.{◌≡◌, List, [], ◌∷◌, inl, inr, refl}
use Rattle.plain_model.specs.declared.calls.Call.{Call}
use Rattle.plain_model.specs.declared.calls.Call.TheVariants.{Begin, Make, GetPay, Commit, Abort}
use Rattle.script_lines.specs.declared.grammar.Line.{Line}
use Rattle.script_lines.specs.declared.grammar.Line.TheVariants as line
use Rattle.client_pass.specs.declared.script.ClientScript.{ClientScript}
use Rattle.brahma_shell.specs.LineOrder.{calls_asked, MayCome}
use Rattle.brahma_shell.specs.ClientScripts.{all_calls, AreTransactions, AreOfLines}

abbrev get : Call
get = GetPay 0

-- client 3 commits a transaction beside client 1, which begins a second one
abbrev two_clients : List Line
two_clients =
    line.Ask 3 Begin ∷ line.Nothing ∷ line.Ask 1 Begin ∷ line.Ask 3 get ∷ line.Abort 1 ∷ line.Ask 3 Commit ∷ line.Ask 1 Begin ∷ line.Ask 1 (Make 2) ∷ []

-- ---- what the lines ask of a client

of_client_1 : calls_asked 1 two_clients ≡ Begin ∷ Abort ∷ Begin ∷ Make 2 ∷ []
of_client_1 = refl

of_client_3 : calls_asked 3 two_clients ≡ Begin ∷ get ∷ Commit ∷ []
of_client_3 = refl

of_client_2 : calls_asked 2 two_clients ≡ []
of_client_2 = refl

-- ---- which line may come next

first-begin : MayCome [] (line.Ask 1 Begin)
first-begin = refl

first-nothing : MayCome [] line.Nothing
first-nothing = tt

first-read : MayCome [] (line.Ask 1 get) → ⊥
first-read m = cc

first-abort : MayCome [] (line.Abort 1) → ⊥
first-abort m = cc

begun-twice : MayCome (line.Ask 1 Begin ∷ []) (line.Ask 1 Begin) → ⊥
begun-twice m = cc

begun-by_another : MayCome (line.Ask 2 Begin ∷ []) (line.Ask 1 Begin)
begun-by_another = refl

committed-read : MayCome (line.Ask 1 Begin ∷ line.Ask 1 Commit ∷ []) (line.Ask 1 get) → ⊥
committed-read m = cc

committed-begin : MayCome (line.Ask 1 Begin ∷ line.Ask 1 Commit ∷ []) (line.Ask 1 Begin)
committed-begin = refl

aborted-begin : MayCome (line.Ask 1 Begin ∷ line.Abort 1 ∷ []) (line.Ask 1 Begin)
aborted-begin = refl

read-behind_others : MayCome two_clients (line.Ask 1 get)
read-behind_others = refl

undone : MayCome two_clients (line.Undo 1) → ⊥
undone m = m

collected : MayCome two_clients line.CollectStep → ⊥
collected m = m

all-collected : MayCome two_clients line.CollectAll → ⊥
all-collected m = m

cleaned : MayCome two_clients (line.Clean 0) → ⊥
cleaned m = m

turned : MayCome two_clients line.Turn → ⊥
turned m = m

crashed : MayCome two_clients (line.Crash 0) → ⊥
crashed m = m

-- ---- transactions

-- one that was aborted, and one that is left open
first-aborted : AreTransactions ((Abort ∷ []) ∷ (Make 2 ∷ []) ∷ [])
first-aborted = record {
  before = (Abort ∷ []) ∷ [];
  last = Make 2 ∷ [];
  in_order = refl;
  ended = (record { before = []; end = Abort; in_order = refl; inside = tt; ended = refl }, tt);
  last_is = inr ((refl, refl), tt);
}

-- one that was committed
one-committed : AreTransactions ((get ∷ Commit ∷ []) ∷ [])
one-committed = record {
  before = [];
  last = get ∷ Commit ∷ [];
  in_order = refl;
  ended = tt;
  last_is = inl (record { before = get ∷ []; end = Commit; in_order = refl; inside = ((refl, refl), tt); ended = refl });
}

-- ---- scripts

abbrev two_scripts : List ClientScript
two_scripts = record { pass = 3; txns = (get ∷ Commit ∷ []) ∷ [] } ∷ record { pass = 1; txns = (Abort ∷ []) ∷ (Make 2 ∷ []) ∷ [] } ∷ []

-- the scripts' calls are those of the lines
scripts-of_lines : (calls_asked 3 two_clients ≡ all_calls ((get ∷ Commit ∷ []) ∷ [])) × (calls_asked 1 two_clients ≡ all_calls ((Abort ∷ []) ∷ (Make 2 ∷ []) ∷ []))
scripts-of_lines = (refl, refl)

-- a script that is left out isn't forgiven
left-out : AreOfLines two_clients (record { pass = 3; txns = (get ∷ Commit ∷ []) ∷ [] } ∷ []) → ⊥
left-out a = let none : Begin ∷ Abort ∷ Begin ∷ Make 2 ∷ [] ≡ [] = a.nobody 1 ((λ (e : 3 ≡ 1). cc), tt) in cc
