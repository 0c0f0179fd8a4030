-- Which intervals a train was told of so far, in a search for the one that begins at its position. Assumes nothing.
use Rattle.std.proofs.Common.{◌≡◌, ℕ, ◌+◌, ◌<◌, true, false, List, length, get_or, sym, ap, subst, ◌∙◌, add-one, arith}
use native.Mathlib.Decide.{dec_lt, ℕ_discrete}
use borrow.Author.Tests.{both_ways}
use Rattle.std.proofs.lemmas.Bool.Decides.{nat_tests}
use Rattle.std.proofs.lemmas.List.{get_or-map}
use Rattle.codes.specs.declared.speeds.Speed.{Speed}
use Rattle.codes.specs.declared.speeds.Code.{Code}
use Rattle.codes.specs.declared.speeds.Code.TheVariants.{Stop}
use Rattle.codes.specs.declared.gradients.Class.{Class}
use Rattle.codes.specs.Speeds.{byte}
use Rattle.ground.specs.declared.entries.Entry.{Entry}
use Rattle.rules.specs.declared.lines.Interval.{Interval}
use Rattle.rules.specs.Tracks.{Track, Mark, moved_on, end_of}
use Rattle.rows.specs.Drawings.{lengths_of}
use Rattle.rows.specs.Passing.{read_code, codes_of}
use Rattle.driving.specs.Journeys.{Differs}
use Rattle.driving.specs.Driving.{track_over, code_in, is_told, FirstDue}
use Rattle.driving.proofs.Decided.{same_byte}
use Rattle.rules.proofs.Moved.{moved_none, moved_more}
use Rattle.driving.proofs.Places.{end_rises}

-- ---- the test for one interval

module _ (begin position : ℕ) (code told : Code) where
  told_from_other : begin ≡ position → (code ≡ told → ⊥) → is_told begin position code told ≡ true
  told_from_other here other = let apart : byte code ≡ byte told → ⊥ = λ same. other (same_byte code told same) in grind (arith, nat_tests)

  other_from_told : is_told begin position code told ≡ true → (begin ≡ position) × (code ≡ told → ⊥)
  other_from_told e = (grind (arith, nat_tests), λ same. let alike = ap byte same in grind (arith, nat_tests))

-- ---- one interval after the other

-- The intervals before the n-th place were looked at. The next begins here, and none of them does where the train is with a code
-- of its own.
pub record Passed (start : ℕ) (intervals : List Interval) (bytes : List ℕ) (position : ℕ) (told : Code) (n begin : ℕ) : Type 0 where
  pub begins : begin ≡ moved_on start (lengths_of intervals) n
  pub same : (k : ℕ) → k < n → is_told (moved_on start (lengths_of intervals) k) position (code_in bytes k) told ≡ false

module _ (start : ℕ) (intervals : List Interval) (bytes : List ℕ) (position : ℕ) (told : Code) where
  pub passed_none : Passed start intervals bytes position told 0 start
  passed_none = record { begins = sym (moved_none start (lengths_of intervals)); same = λ k low. absurd (omega arith) }

  -- the code of the next byte
  module _ (n begin : ℕ) (code : Code) (passed : Passed start intervals bytes position told n begin) (within : n < length bytes) (reads : code ≡ read_code (get_or bytes n 0)) where
    code_here : code ≡ code_in bytes n
    code_here = reads ∙ sym (get_or-map read_code bytes n 0 Stop within)

    told_here : is_told begin position code told ≡ is_told (moved_on start (lengths_of intervals) n) position (code_in bytes n) told
    told_here = let here = passed.begins in let same = code_here in cc

    pub passed_more : (metres : ℕ) → metres ≡ get_or (lengths_of intervals) n 0 → is_told begin position code told ≡ false
        → Passed start intervals bytes position told (n + 1) (begin + metres)
    passed_more metres long other = record {
      begins = let more = moved_more start (lengths_of intervals) n in let next = ap (moved_on start (lengths_of intervals)) (add-one n) in let here = passed.begins in omega arith;
      same = λ k low. elim (ℕ_discrete n k) [
        | yes e ↦ subst (λ k. is_told (moved_on start (lengths_of intervals) k) position (code_in bytes k) told ≡ false) e (sym told_here ∙ other)
        | no before ↦ passed.same k (omega arith)
      ];
    }

  module _ (gradients : List (Entry Class)) (restrictions : List (Entry Speed)) (mark : Mark) (reaches : mark.interval ≡ length bytes) where
    abbrev track : Track
    track = track_over start intervals gradients restrictions

    abbrev Told : ℕ → Type 0
    Told i = Differs track mark (codes_of bytes) told position i

    told_from_differs : (i : ℕ) → Told i → is_told (end_of track i) position (code_in bytes i) told ≡ true
    told_from_differs i differs = told_from_other (end_of track i) position (code_in bytes i) told differs.begins differs.other

    passed_differs : (n begin : ℕ) → Passed start intervals bytes position told n begin → (k : ℕ) → k < n → Told k → ⊥
    passed_differs n begin passed k low differs = both_ways (is_told (end_of track k) position (code_in bytes k) told) (passed.same k low) (told_from_differs k differs)

    -- where the next interval is the first to be told, its code is due
    pub passed_due : (n begin : ℕ) (code : Code) → Passed start intervals bytes position told n begin → n < length bytes → code ≡ read_code (get_or bytes n 0)
        → is_told begin position code told ≡ true → FirstDue track mark (codes_of bytes) position told code
    passed_due n begin code passed within reads due =
        let other = other_from_told (end_of track n) position (code_in bytes n) told (sym (told_here n begin code passed within reads) ∙ due) in
        record {
          place = n;
          differs = record { within = omega arith; begins = other.0; other = other.1 };
          first = passed_differs n begin passed;
          tells = code_here n begin code passed within reads;
        }

    -- where the next interval begins behind the train, or there is none, none is due
    pub passed_beyond : (n begin : ℕ) → Passed start intervals bytes position told n begin → position < begin → (i : ℕ) → Told i → ⊥
    passed_beyond n begin passed beyond i differs =
        elim (dec_lt i n) [
          | yes low ↦ passed_differs n begin passed i low differs
          | no high ↦ let rises = end_rises track n i (omega arith) in let at = differs.begins in let here = passed.begins in omega arith
        ]
