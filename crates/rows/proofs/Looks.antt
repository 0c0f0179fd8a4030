-- The first break, one interval further back. Assumes nothing.
use Rattle.std.proofs.Common.{◌≡◌, ℕ, zero, suc, ◌+◌, ◌-◌, ◌<◌, ◌≤◌, ◌↔◌, List, length, get_or, Some, None, Option, sym, ap, ◌∙◌, subst, arith}
use mathlib.Core.List.{reverse}
use Rattle.std.proofs.lemmas.List.{get_or-map, get_or-reverse, length-reverse}
use native.Mathlib.Decide.{ℕ_discrete}
use Rattle.codes.specs.declared.speeds.Speed.{Speed}
use Rattle.codes.specs.declared.speeds.Code.{Code}
use Rattle.codes.specs.declared.speeds.Code.TheVariants.{Stop}
use Rattle.codes.specs.Speeds.{byte}
use Rattle.laws.specs.Books.{Emergencies, Services}
use Rattle.rules.specs.Tracks.{Track, Mark}
use Rattle.rules.specs.Rules.{Rule, touching, ahead, service, stopping, next, Obeys, code_at, Lawful}
use Rattle.rules.specs.Rows.{Breaks}
use Rattle.rows.specs.declared.passing.FiveCaps.{FiveCaps}
use Rattle.rows.specs.declared.breaks.Break.{Break}
use Rattle.rows.specs.Passing.{Five, WithinFive, read_code, codes_of}
use Rattle.rows.specs.Examining.{cap, Looked, obeyed, breaks, AllowedAt, Known}
use Rattle.rows.proofs.Settles.{allowed_within}

-- the code of a byte that k bytes of a row follow, where it stands as the j-th
pub code_read : (approach : Speed) (row : List ℕ) (j k b : ℕ) → j + k ≡ length row → k < length (reverse row) → b ≡ get_or (reverse row) k b → read_code b ≡ code_at approach (codes_of row) j
code_read approach row zero k b at within e = absurd (let long = length-reverse row in omega arith)
code_read approach row (suc n) k b at within e =
    let long = length-reverse row in
    let here : length row - 1 - k ≡ n = omega arith in
    ap read_code (e ∙ get_or-reverse row k b (omega arith) ∙ ap (λ i. get_or row i b) here) ∙ sym (get_or-map read_code row n b Stop (omega arith))

module _ (track : Track) (mark : Mark) (E : Emergencies) (D : Services) where
  -- a code obeys a rule exactly up to the rule's cap
  obeys_cap : (j : ℕ) (w : Code) (caps : FiveCaps) → Five track mark E D j w caps → (c : Code) (rule : Rule) → Obeys track mark E D j c w rule ↔ (byte c ≤ byte (cap caps rule))
  obeys_cap j w caps five c touching = five.four.touching c
  obeys_cap j w caps five c ahead = five.four.ahead c
  obeys_cap j w caps five c service = five.four.service c
  obeys_cap j w caps five c stopping = five.four.stopping c
  obeys_cap j w caps five c next = five.next c

  module _ (approach : Speed) (row : List Code) where
    pub known_none : (j : ℕ) → mark.interval < j → Known track mark E D approach row j None
    known_none j past i low high = absurd (omega arith)

    module _ (j : ℕ) (within : j ≤ mark.interval) (caps : FiveCaps) (five : Five track mark E D j (get_or row j Stop) caps) where
      kept_on : WithinFive caps (code_at approach row j) → (known : Option Break) → Known track mark E D approach row (suc j) known → Known track mark E D approach row j known
      kept_on obeys None known = λ i low high.
          elim (ℕ_discrete j i) [
            | yes here ↦ subst (AllowedAt track mark E D approach row) here ((allowed_within track mark E D j (get_or row j Stop) caps five (code_at approach row j)).1 obeys)
            | no further ↦ known i (omega arith) high
          ]
      kept_on obeys (Some found) known = record {
        behind = let b = known.behind in omega arith;
        within = known.within;
        earlier = λ i low less. elim (ℕ_discrete j i) [
          | yes here ↦ subst (AllowedAt track mark E D approach row) here ((allowed_within track mark E D j (get_or row j Stop) caps five (code_at approach row j)).1 obeys)
          | no further ↦ known.earlier i (omega arith) less
        ];
        before = known.before;
        broken = known.broken;
      }

      pub known_more : (known r : Option Break) → Known track mark E D approach row (suc j) known → Looked caps (code_at approach row j) j known r → Known track mark E D approach row j r
      known_more known r behind (obeyed obeys) = kept_on obeys known behind
      known_more known r behind (breaks rule broken) = record {
        behind = omega arith;
        within = within;
        earlier = λ i low less. absurd (omega arith);
        before = λ other less. (obeys_cap j (get_or row j Stop) caps five (code_at approach row j) other).1 (broken.before other less);
        broken = λ obeys. let le = (obeys_cap j (get_or row j Stop) caps five (code_at approach row j) rule).0 obeys in let above = broken.above in omega arith;
      }

    -- the same at an interval k that is the j-th, with its code and that of the next
    pub known_on : (j k : ℕ) (w code : Code) → k ≡ j → w ≡ get_or row j Stop → code ≡ code_at approach row j → j ≤ mark.interval → (caps : FiveCaps) → Five track mark E D k w caps
        → (known r : Option Break) → Known track mark E D approach row (suc k) known → Looked caps code j known r → Known track mark E D approach row j r
    known_on j k w code here before is within caps five known r behind looked =
        known_more j within caps (subst (λ x. Five track mark E D j x caps) before (subst (λ i. Five track mark E D i w caps) here five)) known r
        (subst (λ i. Known track mark E D approach row (suc i) known) here behind) (subst (λ x. Looked caps x j known r) is looked)

    -- without a break the row is lawful, and the break is the first
    pub lawful_from_known : length row ≡ mark.interval → Known track mark E D approach row 0 None → Lawful track mark E D approach row
    lawful_from_known size known = record { size = size; obeys = λ j l. known j (omega arith) l }

    pub breaks_from_known : (found : Break) → (known : Known track mark E D approach row 0 (Some found)) → Breaks track mark E D approach row found.interval found.rule
    breaks_from_known found known = record {
      within = known.within;
      earlier = λ i less. known.earlier i (omega arith) less;
      before = known.before;
      broken = known.broken;
    }
