-- What was reached from the seeds is what lives.
use Rattle.std.proofs.Common.{◌≡◌, ℕ, List, map, sym, subst}
use Rattle.std.specs.Prelude.{Contains}
use Rattle.red_walk.specs.Walk.{Walk}
use Rattle.green_walk.specs.Judged.{IsLive, Picks}
use Rattle.green_walk.proofs.PicksLaws.{picks-from, picks-all, picks-same}
use Rattle.green_walk.proofs.ReachLaws.{live-same}

module _ (w : Walk) (S : ℕ → Type 0) (all : map (λ e. e.0) w.copies ≡ w.list) (seeds shown reached : List ℕ) (e : shown ≡ seeds) (p : Picks S w.list seeds)
    (only : (id : ℕ) → Contains reached id → IsLive w (Contains shown) id) (every : (id : ℕ) → Contains w.list id → IsLive w (Contains shown) id → Contains reached id) where
  pub lives : (x : ℕ) → Contains w.list x → Contains reached x → IsLive w S x
  lives x m r = live-same w (Contains shown) S all (λ y n s. (picks-from S p y (subst (λ xs. Contains xs y) e s)).1) (only x r) m

  pub reaches : (x : ℕ) → Contains w.list x → IsLive w S x → Contains reached x
  reaches x m l = every x m (live-same w S (Contains shown) all (λ y n s. subst (λ xs. Contains xs y) (sym e) (picks-all S p y n s)) l m)

  pub live-picks : (live : List ℕ) → Picks (Contains reached) w.list live → Picks (IsLive w S) w.list live
  live-picks live k = picks-same (Contains reached) (IsLive w S) lives reaches k

  pub condemned-picks : (condemned : List ℕ) → Picks (λ id. Contains reached id → ⊥) w.list condemned → Picks (λ id. IsLive w S id → ⊥) w.list condemned
  condemned-picks condemned k = picks-same (λ id. Contains reached id → ⊥) (λ id. IsLive w S id → ⊥) (λ x m n l. n (reaches x m l)) (λ x m n r. n (lives x m r)) k
