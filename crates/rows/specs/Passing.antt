-- A pass over the intervals of a line, from the mark's back to the approach. Assumes nothing.
--     Stage line target E D pass    all intervals behind the one at which the pass stands were passed
--     Five .. j w caps                the codes of interval j that obey a rule before code w are those up to its cap
--     OnlyStop limits                 stop is the only code within the limits
--     WithinFive caps c               the code is above none of the five caps
--     Joins pass limits (first, ground)    the stop ground begins with interval first, at ground, once the pass's interval was passed
--     read_code b, codes_of bytes     the codes of a row's bytes
use Rattle.std.specs.Prelude.{◌≡◌, ℕ, suc, ◌<◌, ◌≤◌, List, map, ◌≢◌}
use Rattle.std.specs.Option.{unwrap_or}
use Rattle.codes.specs.declared.speeds.Code.{Code}
use Rattle.codes.specs.declared.speeds.Code.TheVariants.{Stop}
use Rattle.codes.specs.Speeds.{byte, code_of}
use Rattle.laws.specs.Books.{Emergencies, Services}
use Rattle.rules.specs.declared.lines.Line.{Line}
use Rattle.rules.specs.Tracks.{Track, Mark, begin_of, end_of}
use Rattle.rules.specs.Rules.{Next}
use Rattle.rules.specs.Searching.{UpTo}
use Rattle.rules.specs.declared.places.Limits.{Limits}
use Rattle.rules.specs.Limits.{Caps, Within}
use Rattle.rows.specs.declared.targets.Target.{Target}
use Rattle.rows.specs.declared.passing.Pass.{Pass}
use Rattle.rows.specs.declared.passing.FiveCaps.{FiveCaps}
use Rattle.rows.specs.Targets.{track_of, mark_of}
use Rattle.rows.specs.Finding.{Reached}

pub record Stage (line : Line) (target : Target) (E : Emergencies) (D : Services) (pass : Pass) : Type 0 where
  pub within : pass.interval ≤ target.held.interval
  pub begins : pass.begin ≡ begin_of (track_of line) pass.interval
  pub ends : pass.end ≡ end_of (track_of line) pass.interval
  pub next_ends : pass.interval < target.held.interval → pass.next_end ≡ end_of (track_of line) (suc pass.interval)
  pub reached : Reached (track_of line) (mark_of target) E D pass.interval pass.first
  pub ground : pass.ground ≡ begin_of (track_of line) pass.first

pub record Five (track : Track) (mark : Mark) (E : Emergencies) (D : Services) (j : ℕ) (w : Code) (caps : FiveCaps) : Type 0 where
  pub four : Caps track mark E D j caps.four
  pub next : UpTo (λ c. Next track mark E D j c w) caps.next

-- no other code is within the limits
abbrev pub OnlyStop : Limits → Type 0
OnlyStop limits = (c : Code) → Within limits c → c ≡ Stop

pub data Joins (pass : Pass) (limits : Limits) : ℕ × ℕ → Type 0 where
  joined : pass.first ≡ suc pass.interval → OnlyStop limits → Joins pass limits (pass.interval, pass.begin)
  kept : (OnlyStop limits → pass.first ≢ suc pass.interval) → Joins pass limits (pass.first, pass.ground)

-- a code above none of the five
abbrev pub WithinFive : FiveCaps → Code → Type 0
WithinFive caps c = Within caps.four c × (byte c ≤ byte caps.next)

abbrev pub read_code : ℕ → Code
read_code b = unwrap_or (code_of b) Stop

abbrev pub codes_of : List ℕ → List Code
codes_of bytes = map read_code bytes
