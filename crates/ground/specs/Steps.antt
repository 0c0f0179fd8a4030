-- How the worst value over a stretch is found, entry by entry. Assumes nothing.
--     worsened_at g entries a b worst change     the worst value so far over the stretch from a to b, once the ground at
--                                                a change is looked at, if the change lies within the stretch
--     worsened_by g entries a b worst entry      the same, once both ends of an entry are looked at
use Rattle.std.specs.Prelude.{ℕ, cond, ◌&&◌, List, nat_lt}
use Rattle.ground.specs.Grading.{Grading}
use Rattle.ground.specs.Ground.{metre_value}
use Rattle.ground.specs.declared.entries.Entry.{Entry}

abbrev pub worsened_at : {V : Type 0} → Grading V → List (Entry V) → ℕ → ℕ → V → ℕ → V
worsened_at g entries a b worst change = cond (nat_lt a change && nat_lt change b) (g.worse worst (metre_value g entries change)) worst

abbrev pub worsened_by : {V : Type 0} → Grading V → List (Entry V) → ℕ → ℕ → V → Entry V → V
worsened_by g entries a b worst entry = worsened_at g entries a b (worsened_at g entries a b worst entry.from) entry.to
