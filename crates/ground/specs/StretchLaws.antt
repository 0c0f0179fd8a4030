-- The laws of a stretch's value, the same for every kind. Assumes nothing.
--     SameEntries es fs           the two lists have the same entries, in whatever order and however often
--     Meets a b entry             the entry has a metre of the stretch from a to b
--     NoneWorse g entries a b v   v is as bad as the value of each entry that has a metre of the stretch
--     Bare entries a b            some metre of the stretch is covered by no entry
--     Stretches g entries         what holds of the stretches under the entries
--     StretchLaws g               it holds whatever the entries
use Rattle.std.specs.Prelude.{◌≡◌, ℕ, ◌+◌, ◌<◌, ◌≤◌, min, max, true, ◌↔◌, List, ◌≢◌}
use Rattle.std.specs.List.Sorted.{IsPermutation}
use Rattle.std.specs.List.{ContainsAt, AllByRecursion}
use Rattle.ground.specs.Grading.{Grading, AsBad}
use Rattle.ground.specs.Ground.{covers, metre_value, stretch_value}
use Rattle.ground.specs.declared.entries.Entry.{Entry}

abbrev pub SameEntries : {V : Type 0} → List (Entry V) → List (Entry V) → Type 0
SameEntries {V} es fs = (entry : Entry V) → ContainsAt es entry ↔ ContainsAt fs entry

-- the later begin lies before the earlier end
abbrev pub Meets : {V : Type 0} → ℕ → ℕ → Entry V → Type 0
Meets a b entry = max a entry.from < min b entry.to

abbrev pub NoneWorse : {V : Type 0} → Grading V → List (Entry V) → ℕ → ℕ → V → Type 0
NoneWorse g entries a b v = AllByRecursion (λ entry. Meets a b entry → AsBad g v entry.value) entries

abbrev pub Bare : {V : Type 0} → List (Entry V) → ℕ → ℕ → Type 0
Bare entries a b = (x : ℕ) × ((a ≤ x) × (x < b) × AllByRecursion (λ entry. covers x entry ≢ true) entries)

pub record Stretches {V : Type 0} (g : Grading V) (entries : List (Entry V)) : Type 0 where
  -- without metres it counts as undrawn
  pub none : (a b : ℕ) → b ≤ a → stretch_value g entries a b ≡ g.undrawn
  pub one : (a : ℕ) → stretch_value g entries a (a + 1) ≡ metre_value g entries a
  -- two stretches, the second from where the first ends
  pub split : (a b c : ℕ) → a < b → b < c → stretch_value g entries a c ≡ g.worse (stretch_value g entries a b) (stretch_value g entries b c)
  -- one metre more worsens it by that metre's value
  pub more : (a b : ℕ) → a < b → stretch_value g entries a (b + 1) ≡ g.worse (stretch_value g entries a b) (metre_value g entries b)
  -- a part is never worse than the whole
  pub part : (a b c d : ℕ) → a ≤ b → b < c → c ≤ d → AsBad g (stretch_value g entries a d) (stretch_value g entries b c)
  -- v is as bad as the stretch exactly if it is as bad as each metre
  pub metrewise : (v : V) (a b : ℕ) → a < b → AsBad g v (stretch_value g entries a b) ↔ ((x : ℕ) → a ≤ x → x < b → AsBad g v (metre_value g entries x))
  -- and exactly if it is as bad as each entry over it and, where a metre is bare, as undrawn ground
  pub entrywise : (v : V) (a b : ℕ) → a < b → AsBad g v (stretch_value g entries a b) ↔ (NoneWorse g entries a b v × (Bare entries a b → AsBad g v g.undrawn))
  -- only which entries there are matters, and neither their order nor how often one is there
  pub same : (others : List (Entry V)) → SameEntries entries others → (a b : ℕ) → stretch_value g others a b ≡ stretch_value g entries a b
  pub reordered : (others : List (Entry V)) → IsPermutation entries others → (a b : ℕ) → stretch_value g others a b ≡ stretch_value g entries a b

abbrev pub StretchLaws : {V : Type 0} → Grading V → Type 0
StretchLaws {V} g = (entries : List (Entry V)) → Stretches g entries
