-- The limits of an interval: from metres to a track, and the codes within all four. Assumes nothing.
use Rattle.std.proofs.Common.{◌≡◌, ℕ, true, ◌↔◌, List, sym, subst, arith}
use Rattle.std.proofs.lemmas.Bool.Decides.{nat_tests}
use Rattle.codes.specs.declared.speeds.Speed.{Speed}
use Rattle.codes.specs.declared.speeds.Code.{Code}
use Rattle.codes.specs.declared.speeds.Code.TheVariants.{Go}
use Rattle.codes.specs.declared.gradients.Class.{Class}
use Rattle.ground.specs.declared.entries.Entry.{Entry}
use Rattle.laws.specs.Books.{Emergencies, Services}
use Rattle.rules.specs.declared.places.Place.{Place}
use Rattle.rules.specs.declared.places.Limits.{Limits}
use Rattle.rules.specs.Tracks.{Track, Mark, begin_of, end_of}
use Rattle.rules.specs.Rules.{Fits}
use Rattle.rules.specs.Searching.{Top, UpTo, Closed}
use Rattle.rules.proofs.UpToTop.{up_to_top}
use Rattle.rules.specs.Limits.{Placed, At, Caps, Within, within}

-- ---- from metres to a track

-- the place of interval j before the mark
abbrev place_of : Track → Mark → ℕ → Place
place_of track mark j = record { begin = begin_of track j; end = end_of track j; position = mark.position; danger = mark.danger }

same_place : (a b : Place) → a.begin ≡ b.begin → a.end ≡ b.end → a.position ≡ b.position → a.danger ≡ b.danger → a ≡ b
same_place a b begins ends marked endangered =
    let same : ◌≡◌ {A = Place} (record { begin = a.begin; end = a.end; position = a.position; danger = a.danger }) (record { begin = b.begin; end = b.end; position = b.position; danger = b.danger }) = cc in
    same

module _ (E : Emergencies) (D : Services) (limits : Limits) (track : Track) (mark : Mark) (j : ℕ) where
  caps_of : Placed E D track.gradients track.restrictions (place_of track mark j) limits → Caps track mark E D j limits
  caps_of placed = record { touching = placed.touching; ahead = placed.ahead; service = placed.service; stopping = placed.stopping }

  pub caps_at : (gradients : List (Entry Class)) (restrictions : List (Entry Speed)) (place : Place) → Placed E D gradients restrictions place limits → At track mark j gradients restrictions place → Caps track mark E D j limits
  caps_at gradients restrictions place placed at =
      let here : place_of track mark j ≡ place = same_place (place_of track mark j) place at.begins at.ends at.marked at.endangered in
      let by_place = subst (λ p. Placed E D gradients restrictions p limits) (sym here) placed in
      let by-gradients = subst (λ es. Placed E D es restrictions (place_of track mark j) limits) (sym at.drawn) by_place in
      caps_of (subst (λ es. Placed E D track.gradients es (place_of track mark j) limits) (sym at.restricted) by-gradients)

-- ---- all four limits

tested : (limits : Limits) (v : Speed) → Within limits (Go v) ↔ (within limits v ≡ true)
tested limits v = (
  λ under. grind (arith, nat_tests),
  λ passes. (grind (arith, nat_tests), grind (arith, nat_tests), grind (arith, nat_tests), grind (arith, nat_tests)),
)

within_closed : (limits : Limits) → Closed (within limits)
within_closed limits low high l passes =
    let under = (tested limits high).1 passes in (tested limits low).0 (omega arith, omega arith, omega arith, omega arith)

pub within_up_to : (limits : Limits) (top : Code) → Top (within limits) top → UpTo (Within limits) top
within_up_to limits = up_to_top (Within limits) (within limits) (omega arith, omega arith, omega arith, omega arith) (tested limits) (within_closed limits)

-- the highest code within all four limits is the highest that obeys the rules for a code by itself
pub fits_up_to : (track : Track) (mark : Mark) (E : Emergencies) (D : Services) (j : ℕ) (limits : Limits) (top : Code) → Caps track mark E D j limits → UpTo (Within limits) top → UpTo (Fits track mark E D j) top
fits_up_to track mark E D j limits top caps within-top c = (
  λ fits. (within-top c).0 ((caps.touching c).0 fits.0, (caps.ahead c).0 fits.1, (caps.service c).0 fits.2, (caps.stopping c).0 fits.3),
  λ low. let under = (within-top c).1 low in ((caps.touching c).1 under.0, (caps.ahead c).1 under.1, (caps.service c).1 under.2, (caps.stopping c).1 under.3),
)
