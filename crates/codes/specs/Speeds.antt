-- The nine speeds and the codes, by their numbers. Assumes nothing.
--     kmh v          a speed in km/h
--     byte c         the byte of a code, by which codes are ordered too
--     lower a b      whether code a ranks below code b
--     speed_of n     the speed of n km/h, if there is one
--     code_of n      the code of byte n, if there is one
--     Drives n r     r is the speed of n km/h, or refusal 4 where there is none
--     Reads n r      r is the code of byte n, or refusal 11 where there is none
use Rattle.std.specs.Prelude.{◌≡◌, ℕ, Bool, List, [], ◌∷◌, map, Option, Result, ok_or, ◌==◌, nat_lt}
use Rattle.std.specs.List.{find}
use Rattle.codes.specs.declared.speeds.Speed.{Speed}
use Rattle.codes.specs.declared.speeds.Speed.TheVariants.{V30, V40, V50, V60, V70, V80, V90, V100, V120}
use Rattle.codes.specs.declared.speeds.Code.{Code}
use Rattle.codes.specs.declared.speeds.Code.TheVariants.{Stop, Go}
use Rattle.codes.specs.declared.refusals.Refusal.{Refusal}
use Rattle.codes.specs.declared.refusals.Refusal.TheVariants as refusal

abbrev pub kmh : Speed → ℕ
kmh V30 = 30
kmh V40 = 40
kmh V50 = 50
kmh V60 = 60
kmh V70 = 70
kmh V80 = 80
kmh V90 = 90
kmh V100 = 100
kmh V120 = 120

-- stop is 0, and so ranks below every speed
abbrev pub byte : Code → ℕ
byte Stop = 0
byte (Go v) = kmh v

abbrev pub lower : Code → Code → Bool
lower a b = nat_lt (byte a) (byte b)

-- the nine speeds and the ten codes, rising
abbrev pub speeds : List Speed
speeds = V30 ∷ V40 ∷ V50 ∷ V60 ∷ V70 ∷ V80 ∷ V90 ∷ V100 ∷ V120 ∷ []

abbrev pub codes : List Code
codes = Stop ∷ map Go speeds

-- the first of a list that has the number n
abbrev pub numbered : {X : Type 0} → (X → ℕ) → ℕ → List X → Option X
numbered f n xs = find (λ x. f x == n) xs

abbrev pub speed_of : ℕ → Option Speed
speed_of n = numbered kmh n speeds

abbrev pub code_of : ℕ → Option Code
code_of n = numbered byte n codes

abbrev pub Drives : ℕ → Result Speed Refusal → Type 0
Drives n r = r ≡ ok_or (speed_of n) refusal.Speed

abbrev pub Reads : ℕ → Result Code Refusal → Type 0
Reads n r = r ≡ ok_or (code_of n) refusal.Byte
