-- Values of which one can say which of two is worse. Assumes nothing.
--     Grading V       a kind of value: the worse of two, and the value of undrawn ground
--     Lawful g        the worse of two is one of them, and depends neither on order nor on grouping
--     AsBad g v w     v is at least as bad as w
--     Harmless g      no value is better than that of undrawn ground
use Rattle.std.specs.Prelude.{◌≡◌, ◌⊎◌}

pub record Grading (V : Type 0) : Type 0 where
  -- the value of ground over which nothing is drawn
  pub undrawn : V
  -- the worse of two values
  pub worse : V → V → V

pub record Lawful {V : Type 0} (g : Grading V) : Type 0 where
  pub picks : (v w : V) → (g.worse v w ≡ v) ⊎ (g.worse v w ≡ w)
  pub comm : (v w : V) → g.worse v w ≡ g.worse w v
  pub assoc : (u v w : V) → g.worse (g.worse u v) w ≡ g.worse u (g.worse v w)

abbrev pub AsBad : {V : Type 0} → Grading V → V → V → Type 0
AsBad g v w = g.worse v w ≡ v

-- so it is with speeds, and not with classes
abbrev pub Harmless : {V : Type 0} → Grading V → Type 0
Harmless {V} g = (v : V) → AsBad g v g.undrawn
