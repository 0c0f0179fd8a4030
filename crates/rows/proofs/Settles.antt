-- The highest code of an interval is the highest within its five caps. Assumes nothing.
use Rattle.std.proofs.Common.{◌≡◌, ℕ, suc, ◌<◌, ◌≤◌, Bool, ◌↔◌, List, length, get_or, set, Decides, unwrap_or, sym, ap, ◌∙◌, subst, arith}
use native.Mathlib.Decide.{ℕ_discrete}
use Rattle.std.proofs.lemmas.List.{length-map, length-set, map-set, get_or-set_same, get_or-set_other}
use Rattle.codes.specs.declared.speeds.Code.{Code}
use Rattle.codes.specs.declared.speeds.Code.TheVariants.{Stop}
use Rattle.codes.specs.Speeds.{byte, code_of}
use Rattle.codes.proofs.Numbered.{code_back}
use Rattle.laws.specs.Books.{Emergencies, Services}
use Rattle.rules.specs.Tracks.{Track, Mark}
use Rattle.rules.specs.Rules.{Allowed}
use Rattle.rules.specs.Searching.{UpTo}
use Rattle.rows.specs.declared.passing.FiveCaps.{FiveCaps}
use Rattle.rows.specs.Finding.{HighestAt, FoundFrom}
use Rattle.rows.specs.Passing.{Five, WithinFive, read_code, codes_of}
use Rattle.rows.specs.WorkingOut.{Spells}

pub read_back : (b : ℕ) (c : Code) → b ≡ byte c → read_code b ≡ c
read_back b c e = ap (λ n. unwrap_or (code_of n) Stop) e ∙ ap (λ o. unwrap_or o Stop) (code_back c)

module _ (track : Track) (mark : Mark) (E : Emergencies) (D : Services) where
  module _ (j : ℕ) (w : Code) (caps : FiveCaps) (five : Five track mark E D j w caps) where
    pub allowed_within : (c : Code) → Allowed track mark E D j c w ↔ WithinFive caps c
    allowed_within c = (
      λ allowed. (
        ((five.four.touching c).0 allowed.0, (five.four.ahead c).0 allowed.1.0, (five.four.service c).0 allowed.1.1.0, (five.four.stopping c).0 allowed.1.1.1.0),
        (five.next c).0 allowed.1.1.1.1.0,
      ),
      λ within. ((five.four.touching c).1 within.0.0, ((five.four.ahead c).1 within.0.1, ((five.four.service c).1 within.0.2, ((five.four.stopping c).1 within.0.3, ((five.next c).1 within.1, tt))))),
    )

    pub highest_from_five : (code : Code) → UpTo (WithinFive caps) code → HighestAt track mark E D j code w
    highest_from_five code up = record {
      allowed = (allowed_within code).1 ((up code).1 (omega arith));
      highest = λ u allowed. (up u).0 ((allowed_within u).0 allowed);
    }

    -- whether a code is allowed, by the highest one
    pub allowed_decided : (top c : Code) → UpTo (WithinFive caps) top → (b : Bool) → Decides b (byte c ≤ byte top) → Decides b (Allowed track mark E D j c w)
    allowed_decided top c up b decided = (λ passes. (allowed_within c).1 ((up c).1 (decided.0 passes)), λ allowed. decided.1 ((up c).0 ((allowed_within c).0 allowed)))

  -- no interval has its code yet, and one more has
  pub found_none : (bytes : List ℕ) → length bytes ≡ mark.interval → FoundFrom track mark E D (length bytes) (codes_of bytes)
  found_none bytes size = record { size = length-map bytes read_code ∙ size; each = λ j low high. absurd (omega arith) }

  pub found_more : (n : ℕ) (bytes : List ℕ) (b : ℕ) (code : Code) → FoundFrom track mark E D (suc n) (codes_of bytes) → suc n ≤ length bytes → b ≡ byte code → HighestAt track mark E D (suc n) code (get_or (codes_of bytes) (suc n) Stop) → FoundFrom track mark E D n (codes_of (set bytes n b))
  found_more n bytes b code found within e highest =
      subst (FoundFrom track mark E D n) (sym (map-set read_code bytes n b ∙ ap (set (codes_of bytes) n) (read_back b code e))) (record {
        size = length-set (codes_of bytes) n code ∙ found.size;
        each = λ j low high. elim (ℕ_discrete n j) [
          | yes here ↦ subst (λ i. HighestAt track mark E D (suc i) (get_or (set (codes_of bytes) n code) i Stop) (get_or (set (codes_of bytes) n code) (suc i) Stop)) here at_n
          | no further ↦
              subst (λ c. HighestAt track mark E D (suc j) c (get_or (set (codes_of bytes) n code) (suc j) Stop)) (sym (get_or-set_other (codes_of bytes) n j code Stop (λ x. further (sym x))))
              (subst (HighestAt track mark E D (suc j) (get_or (codes_of bytes) j Stop)) (sym (get_or-set_other (codes_of bytes) n (suc j) code Stop (λ x. omega arith))) (found.each j (omega arith) high))
        ];
      })
    where
      room : n < length (codes_of bytes)
      room = let count = length-map bytes read_code in omega arith

      at_n : HighestAt track mark E D (suc n) (get_or (set (codes_of bytes) n code) n Stop) (get_or (set (codes_of bytes) n code) (suc n) Stop)
      at_n =
          subst (λ c. HighestAt track mark E D (suc n) c (get_or (set (codes_of bytes) n code) (suc n) Stop)) (sym (get_or-set_same (codes_of bytes) n code Stop room))
          (subst (HighestAt track mark E D (suc n) code) (sym (get_or-set_other (codes_of bytes) n (suc n) code Stop (λ x. omega arith))) highest)

  -- the interval at hand gets the highest code within its caps
  pub row_more : (n i j : ℕ) (bytes : List ℕ) (b : ℕ) (code w : Code) (caps : FiveCaps) → i ≡ suc n → j ≡ i → w ≡ get_or (codes_of bytes) i Stop
      → Five track mark E D j w caps → UpTo (WithinFive caps) code → suc n ≤ length bytes → b ≡ byte code → FoundFrom track mark E D i (codes_of bytes) → FoundFrom track mark E D n (codes_of (set bytes n b))
  row_more n i j bytes b code w caps here at next five up within e found =
      found_more n bytes b code (subst (λ k. FoundFrom track mark E D k (codes_of bytes)) here found) within e
      (subst (λ k. HighestAt track mark E D k code (get_or (codes_of bytes) k Stop)) (at ∙ here)
      (subst (HighestAt track mark E D j code) (next ∙ ap (λ k. get_or (codes_of bytes) k Stop) (sym at)) (highest_from_five j w caps five code up)))

  pub code_set : (n : ℕ) (bytes : List ℕ) (b : ℕ) (code : Code) → suc n ≤ length bytes → b ≡ byte code → get_or (codes_of (set bytes n b)) n Stop ≡ code
  code_set n bytes b code within e =
      ap (λ cs. get_or cs n Stop) (map-set read_code bytes n b ∙ ap (set (codes_of bytes) n) (read_back b code e))
      ∙ get_or-set_same (codes_of bytes) n code Stop (let count = length-map bytes read_code in omega arith)

pub spells_more : (n : ℕ) (bytes : List ℕ) (b : ℕ) (code : Code) → suc n ≤ length bytes → b ≡ byte code → Spells (suc n) bytes → Spells n (set bytes n b)
spells_more n bytes b code within e spells k low high =
    elim (ℕ_discrete n k) [
      | yes here ↦ (code, ap (λ i. get_or (set bytes n b) i 0) (sym here) ∙ get_or-set_same bytes n b 0 within ∙ e)
      | no further ↦
          let there = spells k (omega arith) (let same = length-set bytes n b in omega arith) in
          (there.0, get_or-set_other bytes n k b 0 (λ x. further (sym x)) ∙ there.1)
    ]
