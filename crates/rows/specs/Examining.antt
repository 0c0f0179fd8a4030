-- What examining a row answers. Assumes nothing.
--     Broken caps c rule         the rule is the first whose cap is below code c
--     broken_rule caps c         that rule, if there is one
--     Looked caps c j before r   interval j with code c was looked at: r is its first broken rule, else what was known before
--     Known .. j r               r is the first break among the intervals behind the j-th, if there is one
--     Examined .. r              r is a pass of a lawful row, or the first refusal that is due
use Rattle.std.specs.Prelude.{◌≡◌, ℕ, ◌<◌, ◌≤◌, List, [], ◌∷◌, length, Some, None, Ok, Err, Option, Result, slice_index_or}
use Rattle.std.specs.List.{find}
use Rattle.codes.specs.declared.speeds.Speed.{Speed}
use Rattle.codes.specs.declared.speeds.Code.{Code}
use Rattle.codes.specs.declared.speeds.Code.TheVariants.{Stop}
use Rattle.codes.specs.declared.refusals.Refusal.{Refusal}
use Rattle.codes.specs.Speeds.{byte, lower}
use Rattle.codes.specs.Refusals.{notice}
use Rattle.laws.specs.Books.{Emergencies, Services}
use Rattle.rules.specs.Tracks.{Track, Mark}
use Rattle.rules.specs.Rules.{Rule, touching, ahead, service, stopping, next, rules, rule_number, Obeys, Allowed, code_at, Lawful}
use Rattle.rules.specs.Rows.{Breaks}
use Rattle.rows.specs.declared.targets.Target.{Target}
use Rattle.rows.specs.declared.passing.FiveCaps.{FiveCaps}
use Rattle.rows.specs.declared.breaks.Break.{Break}
use Rattle.rows.specs.Drawings.{Drawing, track_drawn}
use Rattle.rows.specs.Targets.{mark_of}
use Rattle.rows.specs.Asking.{Asked, Unasked}
use Rattle.rows.specs.Passing.{WithinFive, codes_of}
use Rattle.rows.specs.WorkingOut.{Spells}

-- the cap of a rule
abbrev pub cap : FiveCaps → Rule → Code
cap caps touching = caps.four.touching
cap caps ahead = caps.four.ahead
cap caps service = caps.four.service
cap caps stopping = caps.four.stopping
cap caps next = caps.next

pub record Broken (caps : FiveCaps) (c : Code) (rule : Rule) : Type 0 where
  pub above : byte (cap caps rule) < byte c
  pub before : (other : Rule) → rule_number other < rule_number rule → byte c ≤ byte (cap caps other)

-- the first rule whose cap is below code c, in the order in which the rules are tried
abbrev pub broken_rule : FiveCaps → Code → Option Rule
broken_rule caps c = find (λ rule. lower (cap caps rule) c) rules

abbrev pub FirstBroken : FiveCaps → Code → Option Rule → Type 0
FirstBroken caps c None = WithinFive caps c
FirstBroken caps c (Some rule) = Broken caps c rule

pub data Looked (caps : FiveCaps) (c : Code) (j : ℕ) (known : Option Break) : Option Break → Type 0 where
  obeyed : WithinFive caps c → Looked caps c j known known
  breaks : (rule : Rule) → Broken caps c rule → Looked caps c j known (Some (record { interval = j; rule = rule }))

module _ (track : Track) (mark : Mark) (E : Emergencies) (D : Services) (approach : Speed) (row : List Code) where
  abbrev pub AllowedAt : ℕ → Type 0
  AllowedAt i = Allowed track mark E D i (code_at approach row i) (slice_index_or row i Stop)

  -- a break, with what comes before it from the j-th interval on
  pub record BreaksFrom (j : ℕ) (found : Break) : Type 0 where
    pub behind : j ≤ found.interval
    pub within : found.interval ≤ mark.interval
    pub earlier : (i : ℕ) → j ≤ i → i < found.interval → AllowedAt i
    pub before : (other : Rule) → rule_number other < rule_number found.rule → Obeys track mark E D found.interval (code_at approach row found.interval) (slice_index_or row found.interval Stop) other
    pub broken : Obeys track mark E D found.interval (code_at approach row found.interval) (slice_index_or row found.interval Stop) found.rule → ⊥

  abbrev pub Known : ℕ → Option Break → Type 0
  Known j None = (i : ℕ) → j ≤ i → i ≤ mark.interval → AllowedAt i
  Known j (Some found) = BreaksFrom j found

pub record Passed (drawing : Drawing) (number approach : ℕ) (E : Emergencies) (D : Services) (bytes : List ℕ) : Type 0 where
  pub target : Target
  pub speed : Speed
  pub asked : Asked drawing number approach target speed
  pub spelt : Spells 0 bytes
  pub lawful : Lawful (track_drawn drawing) (mark_of target) E D speed (codes_of bytes)

-- the refusals by what is asked for, 11 for a byte that is no code, and 12 for the first break
pub data Failed (drawing : Drawing) (mark_number approach : ℕ) (E : Emergencies) (D : Services) (bytes : List ℕ) : ℕ × List ℕ → Type 0 where
  unasked : (why : ℕ × List ℕ) → Unasked drawing mark_number approach (length bytes) why → Failed drawing mark_number approach E D bytes why
  strange : (target : Target) (speed : Speed) → Asked drawing mark_number approach target speed → length bytes ≡ target.held.interval → (Spells 0 bytes → ⊥) → Failed drawing mark_number approach E D bytes (11, [])
  unlawful : (target : Target) (speed : Speed) → Asked drawing mark_number approach target speed → length bytes ≡ target.held.interval → Spells 0 bytes → (j : ℕ) (rule : Rule) → Breaks (track_drawn drawing) (mark_of target) E D speed (codes_of bytes) j rule → Failed drawing mark_number approach E D bytes (12, j ∷ rule_number rule ∷ [])

abbrev pub Examined : Drawing → ℕ → ℕ → Emergencies → Services → List ℕ → Result (Unit {0}) Refusal → Type 0
Examined drawing mark approach E D bytes (Ok done) = Passed drawing mark approach E D bytes
Examined drawing mark approach E D bytes (Err why) = Failed drawing mark approach E D bytes (notice why)
