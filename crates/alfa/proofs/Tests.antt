-- Tests that compute the rules, each with the rule that it decides. Assumes nothing.
use Rattle.std.proofs.Common.{ℕ, suc, ◌+◌, ◌-◌, ◌≤◌, Bool, true, false, ◌&&◌, ◌||◌, ltb, leb, List, Decides, sym, refl, true≢false, arith, le-leb, leb-true}
use Rattle.std.specs.List.{AllByRecursion, list_all}
use Rattle.std.proofs.lemmas.Bool.Decides.{Decides-like, Decides-and, Decides-or, Decides-ltb}
use Rattle.std.proofs.ByRecursion.{Decides-by_and}
use Rattle.codes.specs.declared.speeds.Speed.{Speed}
use Rattle.codes.specs.declared.speeds.Code.{Code}
use Rattle.codes.specs.declared.speeds.Code.TheVariants.{Stop, Go}
use Rattle.codes.specs.declared.gradients.Class.{Class}
use Rattle.codes.specs.Speeds.{kmh, byte}
use Rattle.ground.specs.declared.entries.Entry.{Entry}
use Rattle.laws.specs.Books.{Emergencies, Services}
use Rattle.rules.specs.Tracks.{Track, Mark, begin_of, end_of, length_of, class_over}
use Rattle.rules.specs.Rules.{train_length, Down, Halts, Rule, touching, ahead, service, stopping, next, rules, Touching, Ahead, Fits, Obeys, Allowed}
use Rattle.rows.specs.WorkingOut.{FirstOfGround}

-- ---- tests of any kind

abbrev pub implies : Bool → Bool → Bool
implies true b = b
implies false b = true

decides_implies : {P Q : Type 0} (a b : Bool) → Decides a P → Decides b Q → Decides (implies a b) (P → Q)
decides_implies true b d k = (λ e p. k.0 e, λ f. k.1 (f (d.0 refl)))
decides_implies false b d k = (λ e p. absurd (true≢false (sym (d.1 p))), λ f. refl)

decides_leb : (m n : ℕ) → Decides (leb m n) (m ≤ n)
decides_leb m n = (leb-true m n, le-leb m n)

decides_every : {X : Type 0} (test : X → Bool) (P : X → Type 0) → ((x : X) → Decides (test x) (P x)) → (xs : List X) → Decides (list_all test xs) (AllByRecursion P xs)
decides_every test P each = Decides-by_and test P (list_all test) each refl (λ x xs. refl)

-- ---- braking

abbrev pub is_down : Emergencies → Class → Code → Code → ℕ → Bool
is_down E k Stop to metres = true
is_down E k (Go v) to metres = leb (kmh v) (byte to) || leb (E k v to) metres

decides_down : (E : Emergencies) (k : Class) (c to : Code) (metres : ℕ) → Decides (is_down E k c to metres) (Down E k c to metres)
decides_down E k Stop to metres = (λ e. tt, λ h. refl)
decides_down E k (Go v) to metres = Decides-or (leb (kmh v) (byte to)) (leb (E k v to) metres) (decides_leb (kmh v) (byte to)) (decides_leb (E k v to) metres)

abbrev pub is_halted : (Speed → ℕ) → Code → ℕ → Bool
is_halted distance Stop metres = true
is_halted distance (Go v) metres = leb (distance v) metres

decides_halts : (distance : Speed → ℕ) (c : Code) (metres : ℕ) → Decides (is_halted distance c metres) (Halts distance c metres)
decides_halts distance Stop metres = (λ e. tt, λ h. refl)
decides_halts distance (Go v) metres = decides_leb (distance v) metres

-- ---- the rules, with the class of a stretch by any reckoning

module _ (class : ℕ → ℕ → Class) (track : Track) (mark : Mark) (E : Emergencies) (D : Services) where
  abbrev is_touching : ℕ → Code → Entry Speed → Bool
  is_touching j c x =
      implies (ltb x.from mark.danger) (implies (ltb x.from (end_of track j)) (implies (ltb (begin_of track j) (x.to + train_length)) (leb (byte c) (kmh x.value))))

  abbrev is_ahead : ℕ → Code → Entry Speed → Bool
  is_ahead j c x =
      implies (ltb x.from mark.danger) (implies (leb (end_of track j) x.from) (is_down E (class (end_of track j - train_length) x.from) c (Go x.value) (x.from - end_of track j)))

  -- whether interval j with code c obeys the rule before an interval with code w, where the stop ground begins with the first
  abbrev pub obeys : ℕ → ℕ → Code → Code → Rule → Bool
  obeys first j c w touching = list_all (is_touching j c) track.restrictions
  obeys first j c w ahead = list_all (is_ahead j c) track.restrictions
  obeys first j c w service = is_halted (D (class (end_of track j - train_length) mark.position)) c (mark.position - end_of track j)
  obeys first j c w stopping = is_halted (λ v. E (class (end_of track j - train_length) mark.danger) v Stop) c (mark.danger - end_of track j)
  obeys first j c w next = implies (ltb (suc j) first) (is_down E (class (end_of track j - train_length) (end_of track (suc j))) c w (length_of track (suc j)))

  abbrev pub allows : ℕ → ℕ → Code → Code → Bool
  allows first j c w = list_all (obeys first j c w) rules

  -- rules 1 to 4, which do not ask for the ground nor for the next code
  abbrev pub fits : ℕ → Code → Bool
  fits j c = obeys 0 j c Stop touching && (obeys 0 j c Stop ahead && (obeys 0 j c Stop service && obeys 0 j c Stop stopping))

-- ---- what the tests decide, with the class of the stretch itself

module _ (track : Track) (mark : Mark) (E : Emergencies) (D : Services) where
  decides_touching : (first j : ℕ) (c w : Code) → Decides (obeys (class_over track) track mark E D first j c w touching) (Touching track mark E D j c)
  decides_touching first j c w =
      decides_every (is_touching (class_over track) track mark E D j c) _
      (λ x. decides_implies _ _ (Decides-ltb _ _) (decides_implies _ _ (Decides-ltb _ _) (decides_implies _ _ (Decides-ltb _ _) (decides_leb _ _))))
      track.restrictions

  decides_ahead : (first j : ℕ) (c w : Code) → Decides (obeys (class_over track) track mark E D first j c w ahead) (Ahead track mark E D j c)
  decides_ahead first j c w =
      decides_every (is_ahead (class_over track) track mark E D j c) _
      (λ x. decides_implies _ _ (Decides-ltb _ _) (decides_implies _ _ (decides_leb _ _) (decides_down E _ c (Go x.value) _)))
      track.restrictions

  pub decides_fits : (j : ℕ) (c : Code) → Decides (fits (class_over track) track mark E D j c) (Fits track mark E D j c)
  decides_fits j c =
      Decides-like (fits (class_over track) track mark E D j c) (λ h. (h.0, h.1.0, h.1.1.0, h.1.1.1)) (λ h. (h.0, (h.1, (h.2, h.3))))
      (Decides-and _ _ (decides_touching 0 j c Stop) (Decides-and _ _ (decides_ahead 0 j c Stop) (Decides-and _ _ (decides_halts _ c _) (decides_halts _ c _))))

  module _ (first : ℕ) (ground : FirstOfGround track mark E D first) where
    pub decides_obeys : (j : ℕ) (c w : Code) (rule : Rule) → Decides (obeys (class_over track) track mark E D first j c w rule) (Obeys track mark E D j c w rule)
    decides_obeys j c w touching = decides_touching first j c w
    decides_obeys j c w ahead = decides_ahead first j c w
    decides_obeys j c w service = decides_halts _ c _
    decides_obeys j c w stopping = decides_halts _ c _
    decides_obeys j c w next =
        decides_implies _ _
        (Decides-like (ltb (suc j) first) (λ l i inside. let least = ground.first i inside in omega arith) (λ before. before first ground.inside) (Decides-ltb (suc j) first))
        (decides_down E _ c w _)

    pub decides_allows : (j : ℕ) (c w : Code) → Decides (allows (class_over track) track mark E D first j c w) (Allowed track mark E D j c w)
    decides_allows j c w = decides_every (obeys (class_over track) track mark E D first j c w) (Obeys track mark E D j c w) (decides_obeys j c w) rules
