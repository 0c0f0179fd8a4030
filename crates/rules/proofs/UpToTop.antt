-- The codes up to the highest that passes a test, where what a speed passes each lower one passes. Assumes nothing.
use Rattle.std.proofs.Common.{◌≡◌, ℕ, ◌<◌, ◌≤◌, Bool, true, not, ◌||◌, ltb, leb, ◌⊎◌, ◌↔◌, inl, inr, arith, le-leb, leb-true}
use borrow.Author.Tests.{both_ways}
use Rattle.std.proofs.lemmas.Bool.Decides.{leb_tells, nat_tests}
use Rattle.codes.specs.declared.speeds.Speed.{Speed}
use Rattle.codes.specs.declared.speeds.Code.{Code}
use Rattle.codes.specs.declared.speeds.Code.TheVariants.{Stop, Go}
use Rattle.codes.specs.declared.gradients.Class.{Class}
use Rattle.codes.specs.Speeds.{kmh, byte}
use Rattle.laws.specs.Books.{Emergencies, Services, Laws}
use Rattle.rules.specs.Rules.{Down, Halts}
use Rattle.rules.specs.Searching.{Top, UpTo, Closed}
use Rattle.rules.specs.Braked.{down_to, halts}

pub moving : (v : Speed) → 0 < kmh v
moving v = grind arith

-- ---- any test

module _ (test : Speed → Bool) where
  below_passing : (top : Code) → Top test top → (v : Speed) → test v ≡ true → kmh v ≤ byte top
  below_passing Stop none v passes = absurd (both_ways (test v) (none v) passes)
  below_passing (Go u) highest v passes =
      elim (leb_tells (kmh v) (kmh u)) [
        | inl within ↦ within.1
        | inr above ↦ absurd (both_ways (test v) (highest.1 v above.1) passes)
      ]

  passes_below : Closed test → (top : Code) → Top test top → (v : Speed) → kmh v ≤ byte top → test v ≡ true
  passes_below closed Stop none v l = absurd (let fast = moving v in omega arith)
  passes_below closed (Go u) highest v l = closed v u l highest.0

-- what holds of stop, and of a speed exactly if it passes
pub up_to_top : (P : Code → Type 0) (test : Speed → Bool) → P Stop → ((v : Speed) → P (Go v) ↔ (test v ≡ true)) → Closed test → (top : Code) → Top test top → UpTo P top
up_to_top P test stopped tested closed top highest Stop = (λ p. omega arith, λ l. stopped)
up_to_top P test stopped tested closed top highest (Go v) =
    (λ p. below_passing test top highest v ((tested v).0 p), λ l. (tested v).1 (passes_below test closed top highest v l))

-- ---- the tests of braking distances

either_test : (a b m n : ℕ) → (((b ≤ a) ⊎ (m ≤ n)) ↔ ((not (ltb a b) || leb m n) ≡ true))
either_test a b m n = (
  λ either. elim either [ inl low ↦ grind (arith, nat_tests) | inr fits ↦ grind (arith, nat_tests) ],
  λ passes. elim (leb_tells b a) [ inl low ↦ inl low.1 | inr high ↦ inr (grind (arith, nat_tests)) ],
)

module _ (E : Emergencies) (D : Services) (laws : Laws E D) (k : Class) (metres : ℕ) where
  down_closed : (to : Code) → Closed (down_to E k to metres)
  down_closed to low high l passes =
      (either_test (byte to) (kmh low) (E k low to) metres).0
      (elim (leb_tells (kmh low) (byte to)) [
        | inl under ↦ inl under.1
        | inr over ↦
            let longer = laws.higher_from k low high to over.1 l in
            elim ((either_test (byte to) (kmh high) (E k high to) metres).1 passes) [
              | inl under ↦ absurd (let above = over.1 in omega arith)
              | inr fits ↦ inr (omega arith)
            ]
      ])

  pub down_up_to : (to top : Code) → Top (down_to E k to metres) top → UpTo (λ c. Down E k c to metres) top
  down_up_to to = up_to_top (λ c. Down E k c to metres) (down_to E k to metres) tt (λ v. either_test (byte to) (kmh v) (E k v to) metres) (down_closed to)

  halts_closed : Closed (halts (D k) metres)
  halts_closed low high l passes =
      let longer = laws.higher_service k low high l in
      let fits = leb-true (D k high) metres passes in
      le-leb (D k low) metres (omega arith)

  pub halts_up_to : (top : Code) → Top (halts (D k) metres) top → UpTo (λ c. Halts (D k) c metres) top
  halts_up_to = up_to_top (λ c. Halts (D k) c metres) (halts (D k) metres) tt (λ v. (le-leb (D k v) metres, leb-true (D k v) metres)) halts_closed

-- a train is down to stop where it stops
stop_down : (E : Emergencies) (k : Class) (metres : ℕ) (c : Code) → Halts (λ v. E k v Stop) c metres ↔ Down E k c Stop metres
stop_down E k metres Stop = (λ h. h, λ d. d)
stop_down E k metres (Go v) = (inr, λ d. elim d [ inl low ↦ absurd (let fast = moving v in omega arith) | inr fits ↦ fits ])

pub stop_up_to : (E : Emergencies) (k : Class) (metres : ℕ) (top : Code) → UpTo (λ c. Down E k c Stop metres) top → UpTo (λ c. Halts (λ v. E k v Stop) c metres) top
stop_up_to E k metres top down c =
    (λ h. (down c).0 ((stop_down E k metres c).0 h), λ l. (stop_down E k metres c).1 ((down c).1 l))
