-- A train between two codes: what it carries from the place where it heard the last one. Assumes nothing.
use Rattle.std.proofs.Common.{◌≡◌, ℕ, suc, ◌+◌, ◌-◌, ◌<◌, ◌≤◌, min, max, sym, ap, ◌∙◌, subst, inl, inr, arith}
use native.Mathlib.Decide.{dec_le}
use Rattle.codes.specs.declared.speeds.Code.{Code}
use Rattle.codes.specs.declared.speeds.Code.TheVariants.{Stop, Go}
use Rattle.codes.specs.declared.gradients.Class.{Class}
use Rattle.codes.specs.Speeds.{kmh, byte}
use Rattle.ground.specs.Kinds.{steepness}
use Rattle.ground.specs.BothKinds.{steepness_lawful}
use Rattle.ground.proofs.Laws.{stretches}
use Rattle.laws.specs.Books.{Emergencies, Services, Distances, Laws}
use Rattle.rules.specs.Tracks.{Track, Mark, end_of, class_over}
use Rattle.rules.specs.Rules.{train_length, Down, class_from}
use Rattle.trains.specs.Braking.{Numbers, Promise, Hears, Rolls}
use Rattle.driving.specs.Journeys.{class_behind, class_at}
use Rattle.trains.proofs.Rising.{lowest_speed}

at_most_120 : (c : Code) → byte c ≤ 120
at_most_120 c = grind arith

module _ (E : Emergencies) (D : Services) (distances : Distances E D) (laws : Laws E D) where
  -- over no metres nobody brakes
  down_none : (k : Class) (c to : Code) (metres : ℕ) → metres ≡ 0 → Down E k c to metres → byte c ≤ byte to
  down_none k Stop to metres none down = omega arith
  down_none k (Go v) to metres none (inl low) = low
  down_none k (Go v) to metres none (inr fits) =
      elim (dec_le (kmh v) (byte to)) [
        | yes low ↦ low
        | no high ↦ absurd (omega (arith, (distances.emergency k v to (omega arith)).0))
      ]

  -- where a train that came with no more than code c is down to a lower one by the book, it is by its promise
  kept : (old : ℕ) (n : Numbers) (c to : Code) (metres : ℕ) → Promise E old n → n.carried ≤ byte c → n.rolled ≡ min metres 4095
      → n.pace ≤ max n.carried (byte n.heard) → byte n.heard ≤ byte to → Down E n.gradient c to metres → n.pace ≤ byte to
  kept old n Stop to metres promise carried rolled steady above down = omega arith
  kept old n (Go v) to metres promise carried rolled steady above (inl low) = omega arith
  kept old n (Go v) to metres promise carried rolled steady above (inr fits) =
      elim (dec_le n.carried (byte to)) [
        | yes low ↦ omega arith
        | no high ↦
            let most = at_most_120 (Go v) in
            let low = lowest_speed n.carried (omega arith) (omega arith) in
            let u = low.0 in
            let lower : byte to < kmh u = omega (arith, low.1.reaches) in
            let up_to : kmh u ≤ kmh v = low.1.lowest (Go v) carried in
            promise.braked u to low.1 above lower (omega (arith, laws.higher_from n.gradient u v to lower up_to, (distances.emergency n.gradient u to lower).1))
      ]

  module _ (track : Track) (mark : Mark) (code : ℕ → Code) where
    -- The train n at position x, which heard the code of interval k + 1 where that begins, and came with no more than that of
    -- interval k. Where it is down to a code by the book from there, at x or before, its pace is.
    pub record Riding (k x : ℕ) (n : Numbers) : Type 0 where
      pub heard : n.heard ≡ code (suc k)
      pub rolled : n.rolled ≡ min (x - end_of track k) 4095
      pub ground : n.gradient ≡ class_from track mark E D k x
      pub carried : n.carried ≤ byte (code k)
      pub steady : n.pace ≤ max n.carried (byte n.heard)
      pub braked : (p : ℕ) (to : Code) → end_of track k ≤ p → p ≤ x → byte (code (suc k)) ≤ byte to
          → Down E (class_from track mark E D k p) (code k) to (p - end_of track k) → n.pace ≤ byte to

    pub riding_heard : (k x : ℕ) (m n : Numbers) → end_of track k ≡ x → m.pace ≤ byte (code k) → Hears E (code (suc k)) (class_behind track x) m n → Riding k x n
    riding_heard k x m n at slow hears = record {
      heard = hears.heard;
      rolled = omega (arith, hears.rolled);
      ground = subst (λ p. n.gradient ≡ class_over track (p - train_length) x) (sym at) hears.gradient;
      carried = omega (arith, hears.carried);
      steady = omega (arith, hears.carried, hears.promise.steady);
      braked = λ p to low high above down.
          let most : byte (code k) ≤ byte to = down_none (class_from track mark E D k p) (code k) to (p - end_of track k) (omega arith) down in
          let told : byte n.heard ≡ byte (code (suc k)) = ap byte hears.heard in
          omega (arith, hears.promise.steady);
    }

    pub riding_rolled : (k x : ℕ) (m n : Numbers) → train_length ≤ end_of track k → end_of track k ≤ x → Riding k x m → Rolls E (class_at track x) m n → Riding k (x + 1) n
    riding_rolled k x m n far past was rolls = record {
      heard = heard;
      rolled = rolled;
      ground = ground;
      carried = carried;
      steady = steady;
      braked = braked;
    }
      where
        heard : n.heard ≡ code (suc k)
        heard = rolls.heard ∙ was.heard

        rolled : n.rolled ≡ min (x + 1 - end_of track k) 4095
        rolled = omega (arith, rolls.rolled, was.rolled)

        ground : n.gradient ≡ class_from track mark E D k (x + 1)
        ground =
            rolls.gradient ∙ ap (λ class. steepness.worse class (class_at track x)) was.ground
            ∙ sym ((stretches steepness_lawful track.gradients).more (end_of track k - train_length) x (omega arith))

        carried : n.carried ≤ byte (code k)
        carried = omega (arith, rolls.carried, was.carried)

        same : byte n.heard ≡ byte m.heard
        same = ap byte rolls.heard

        steady : n.pace ≤ max n.carried (byte n.heard)
        steady = omega (arith, rolls.promise.steady, was.steady, rolls.carried, same)

        told : byte n.heard ≡ byte (code (suc k))
        told = ap byte heard

        braked : (p : ℕ) (to : Code) → end_of track k ≤ p → p ≤ x + 1 → byte (code (suc k)) ≤ byte to
            → Down E (class_from track mark E D k p) (code k) to (p - end_of track k) → n.pace ≤ byte to
        braked p to low high above down =
            elim (dec_le p x) [
              | yes before ↦ omega (arith, rolls.promise.steady, told, was.braked p to low before above down)
              | no here ↦
                  let e : p ≡ x + 1 = omega arith in
                  let now = subst (λ q. Down E (class_from track mark E D k q) (code k) to (q - end_of track k)) e down in
                  kept m.pace n (code k) to (x + 1 - end_of track k) rolls.promise carried rolled steady (omega (arith, told))
                  (subst (λ class. Down E class (code k) to (x + 1 - end_of track k)) (sym ground) now)
            ]
