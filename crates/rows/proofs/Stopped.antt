-- An interval to which the limits leave nothing but stop. Assumes nothing.
use Rattle.std.proofs.Common.{◌≡◌, ℕ, ◌≤◌, ◌↔◌, refl, ap, arith}
use Rattle.codes.specs.declared.speeds.Speed.{Speed}
use Rattle.codes.specs.declared.speeds.Code.{Code}
use Rattle.codes.specs.declared.speeds.Code.TheVariants.{Stop, Go}
use Rattle.codes.specs.Speeds.{kmh, byte}
use Rattle.laws.specs.Books.{Emergencies, Services}
use Rattle.rules.specs.declared.places.Limits.{Limits}
use Rattle.rules.specs.Tracks.{Track, Mark}
use Rattle.rules.specs.Rules.{Fits, Stops}
use Rattle.rules.specs.Searching.{UpTo}
use Rattle.rules.specs.Limits.{Caps, Within}
use Rattle.rows.specs.Passing.{OnlyStop}

some_kmh : (v : Speed) → 30 ≤ kmh v
some_kmh v = grind arith

module _ (limits : Limits) (top : Code) (up : UpTo (Within limits) top) where
  pub only_stop_from_top : top ≡ Stop → OnlyStop limits
  only_stop_from_top e Stop within = refl
  only_stop_from_top e (Go v) within = absurd (let le = (up (Go v)).0 within in let some = some_kmh v in let none = ap byte e in omega arith)

  pub top_from_only_stop : OnlyStop limits → top ≡ Stop
  top_from_only_stop only = only top ((up top).1 (omega arith))

module _ (track : Track) (mark : Mark) (E : Emergencies) (D : Services) (j : ℕ) (limits : Limits) (caps : Caps track mark E D j limits) where
  pub fits_within : (c : Code) → Fits track mark E D j c ↔ Within limits c
  fits_within c = (
    λ fits. ((caps.touching c).0 fits.0, (caps.ahead c).0 fits.1, (caps.service c).0 fits.2, (caps.stopping c).0 fits.3),
    λ within. ((caps.touching c).1 within.0, (caps.ahead c).1 within.1, (caps.service c).1 within.2, (caps.stopping c).1 within.3),
  )

  pub stops_from_only : OnlyStop limits → Stops track mark E D j
  stops_from_only only c fits = only c ((fits_within c).0 fits)

  pub only_from_stops : Stops track mark E D j → OnlyStop limits
  only_from_stops stops c within = stops c ((fits_within c).1 within)
