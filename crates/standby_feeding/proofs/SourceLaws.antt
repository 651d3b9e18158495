-- What a source gave.
use Rattle.std.proofs.Common.{ℕ, zero, suc, List, [], ◌∷◌, ◌++◌, Option, Some, None, refl, sym, ap, ◌∙◌, append_assoc, arith}
use Rattle.std.specs.Io.KnownBytes.{Consumes, Keeps}
use Rattle.standby_feeding.specs.Streams.{AreBytes}

pub consumes_none : (old new : Option (List ℕ)) → Keeps old new → Consumes old new []
consumes_none None new k = tt
consumes_none (Some xs) None k = absurd k
consumes_none (Some xs) (Some ys) k = sym k

pub consumes_same : (old : Option (List ℕ)) → Consumes old old []
consumes_same None = tt
consumes_same (Some xs) = refl

pub consumes_both : (old mid new : Option (List ℕ)) (a b : List ℕ) → Consumes old mid a → Consumes mid new b → Consumes old new (a ++ b)
consumes_both None mid new a b p q = tt
consumes_both (Some xs) None new a b p q = absurd p
consumes_both (Some xs) (Some ys) None a b p q = absurd q
consumes_both (Some xs) (Some ys) (Some zs) a b p q = p ∙ ap (λ (l : List ℕ). a ++ l) q ∙ sym (append_assoc a b zs)

pub no_bytes : AreBytes []
no_bytes i = omega arith

pub bytes_both : (a b : List ℕ) → AreBytes a → AreBytes b → AreBytes (a ++ b)
bytes_both [] b p q i = q i
bytes_both (x ∷ a) b p q zero = p zero
bytes_both (x ∷ a) b p q (suc i) = bytes_both a b (λ k. p (suc k)) q i
