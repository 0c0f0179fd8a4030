-- The first of the nine speeds that passes a test, from the highest down. Assumes nothing.
use Rattle.std.proofs.Common.{◌≡◌, ℕ, ◌-◌, ◌<◌, Bool, List, [], ◌∷◌, refl, arith}
use Rattle.std.specs.List.{find}
use Rattle.codes.specs.declared.speeds.Speed.{Speed}
use Rattle.codes.specs.declared.speeds.Speed.TheVariants.{V30, V40, V50, V60, V70, V80, V90, V100, V120}
use Rattle.codes.specs.Speeds.{kmh}
use Rattle.codes.proofs.Firsts.{FirstPassing, searched}
use Rattle.laws.specs.Questions.{column}

abbrev pub falling : List Speed
falling = V120 ∷ V100 ∷ V90 ∷ V80 ∷ V70 ∷ V60 ∷ V50 ∷ V40 ∷ V30 ∷ []

abbrev pub below_top : Speed → ℕ
below_top v = 8 - column v

speed_apart : (u v : Speed) → below_top u ≡ below_top v → u ≡ v
speed_apart u v e = grind arith

speed_below : (v : Speed) → below_top v < 9
speed_below v = omega arith

pub below_from_kmh : (u v : Speed) → kmh u < kmh v → below_top v < below_top u
below_from_kmh u v l = grind arith

pub highest_speed : (test : Speed → Bool) → FirstPassing below_top test (find test falling)
highest_speed test =
    searched below_top speed_apart test 0 falling (refl, (refl, (refl, (refl, (refl, (refl, (refl, (refl, (refl, speed_below))))))))) (λ v l. absurd (omega arith))
