-- The rules for a code by itself and the stop ground can be decided. Assumes nothing.
use Rattle.std.proofs.Common.{◌≡◌, ℕ, ◌+◌, ◌-◌, ◌⊎◌, List, [], ◌∷◌, ap, inl, inr, arith}
use native.Mathlib.Decide.{map_dec, dec_le, dec_lt, ℕ_discrete}
use Rattle.std.specs.List.{AllByRecursion}
use Rattle.codes.specs.declared.speeds.Speed.{Speed}
use Rattle.codes.specs.declared.speeds.Code.{Code}
use Rattle.codes.specs.declared.speeds.Code.TheVariants.{Stop, Go}
use Rattle.codes.specs.declared.gradients.Class.{Class}
use Rattle.codes.specs.Speeds.{kmh, byte, codes}
use Rattle.laws.specs.Books.{Emergencies, Services}
use Rattle.rules.specs.Tracks.{Track, Mark, begin_of, end_of}
use Rattle.rules.specs.Rules.{train_length, Down, Halts, class_from, Touching, Ahead, Fits, Stops}
use Rattle.trains.proofs.Rising.{each_code}

-- ---- what is decided part by part

dec-→ : {A C : Type 0} → Dec A → Dec C → Dec (A → C)
dec-→ (yes a) (yes c) = yes (λ _. c)
dec-→ (yes a) (no n) = no (λ f. n (f a))
dec-→ (no n) d = yes (λ a. absurd (n a))

dec-⊎ : {A C : Type 0} → Dec A → Dec C → Dec (A ⊎ C)
dec-⊎ (yes a) d = yes (inl a)
dec-⊎ (no n) (yes c) = yes (inr c)
dec-⊎ (no n) (no m) = no (λ s. elim s [ inl a ↦ n a | inr c ↦ m c ])

dec-× : {A C : Type 0} → Dec A → Dec C → Dec (A × C)
dec-× (yes a) (yes c) = yes (a, c)
dec-× (yes a) (no n) = no (λ p. n p.1)
dec-× (no n) d = no (λ p. n p.0)

dec_all : {X : Type 0} (P : X → Type 0) → ((x : X) → Dec (P x)) → (xs : List X) → Dec (AllByRecursion P xs)
dec_all P d [] = yes tt
dec_all P d (x ∷ xs) = dec-× (d x) (dec_all P d xs)

-- ---- the ten codes

-- codes are told apart by their bytes
pub same_byte : (c d : Code) → byte c ≡ byte d → c ≡ d
same_byte c d e = grind arith

pub same_code : (c d : Code) → Dec (c ≡ d)
same_code c d = map_dec (same_byte c d) (ap byte) (ℕ_discrete (byte c) (byte d))

-- ---- the rules and the stop ground

dec_down : (E : Emergencies) (k : Class) (c to : Code) (metres : ℕ) → Dec (Down E k c to metres)
dec_down E k Stop to metres = yes tt
dec_down E k (Go v) to metres = dec-⊎ (dec_le (kmh v) (byte to)) (dec_le (E k v to) metres)

dec_halts : (distance : Speed → ℕ) (c : Code) (metres : ℕ) → Dec (Halts distance c metres)
dec_halts distance Stop metres = yes tt
dec_halts distance (Go v) metres = dec_le (distance v) metres

module _ (track : Track) (mark : Mark) (E : Emergencies) (D : Services) where
  dec_touching : (j : ℕ) (c : Code) → Dec (Touching track mark E D j c)
  dec_touching j c = dec_all _ (λ x. dec-→ (dec_lt x.from mark.danger) (dec-→ (dec_lt x.from (end_of track j))
      (dec-→ (dec_lt (begin_of track j) (x.to + train_length)) (dec_le (byte c) (kmh x.value))))) track.restrictions

  dec_ahead : (j : ℕ) (c : Code) → Dec (Ahead track mark E D j c)
  dec_ahead j c = dec_all _ (λ x. dec-→ (dec_lt x.from mark.danger) (dec-→ (dec_le (end_of track j) x.from)
      (dec_down E (class_from track mark E D j x.from) c (Go x.value) (x.from - end_of track j)))) track.restrictions

  dec_fits : (j : ℕ) (c : Code) → Dec (Fits track mark E D j c)
  dec_fits j c = map_dec (λ p. (p.0, p.1.0, p.1.1.0, p.1.1.1)) (λ fits. (fits.0, (fits.1, (fits.2, fits.3))))
      (dec-× (dec_touching j c) (dec-× (dec_ahead j c)
      (dec-× (dec_halts (D (class_from track mark E D j mark.position)) c (mark.position - end_of track j))
      (dec_halts (λ v. E (class_from track mark E D j mark.danger) v Stop) c (mark.danger - end_of track j)))))

  -- only stop obeys the rules
  abbrev Only : ℕ → Code → Type 0
  Only j c = Fits track mark E D j c → c ≡ Stop

  pub dec_stops : (j : ℕ) → Dec (Stops track mark E D j)
  dec_stops j = map_dec (each_code (Only j)) (λ stops. listed stops codes) (dec_all (Only j) (λ c. dec-→ (dec_fits j c) (same_code c Stop)) codes)
    where
      listed : Stops track mark E D j → (cs : List Code) → AllByRecursion (Only j) cs
      listed stops [] = tt
      listed stops (c ∷ cs) = (stops c, listed stops cs)
