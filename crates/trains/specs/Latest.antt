-- The highest pace that the braking promise allows, and the pace of a train that brakes at once. Assumes nothing.
--     at_pace n p          the numbers n, but at the pace p
--     down_to E n v r      whether a train that came with v has to be down to r: it has rolled the emergency distance
--     prompt_pace n        the pace of n, but at the first metre no higher than the code that was heard
--     Latest E old n       the pace of n is the highest promised one, where it was old before
--     Prompt E old n       the pace of n is the prompt pace that goes with the highest promised one
use Rattle.std.specs.Prelude.{◌≡◌, ℕ, ◌≤◌, min, Bool, cond, not, ◌&&◌, ◌==◌, nat_le}
use Rattle.codes.specs.declared.speeds.Speed.{Speed}
use Rattle.codes.specs.declared.speeds.Code.{Code}
use Rattle.codes.specs.declared.speeds.Code.TheVariants.{Go}
use Rattle.codes.specs.Speeds.{byte, lower}
use Rattle.laws.specs.Books.{Emergencies}
use Rattle.trains.specs.Braking.{Numbers, Promise}

abbrev pub at_pace : Numbers → ℕ → Numbers
at_pace n p = record { pace = p; carried = n.carried; heard = n.heard; rolled = n.rolled; gradient = n.gradient }

-- r is below v, not below the code that was heard, and as many metres were rolled as it takes to brake from v to r
abbrev pub down_to : Emergencies → Numbers → Speed → Code → Bool
down_to E n v r = not (lower r n.heard) && (lower r (Go v) && nat_le (E n.gradient v r) n.rolled)

pub record Latest (E : Emergencies) (old : ℕ) (n : Numbers) : Type 0 where
  pub promised : Promise E old n
  pub highest : (p : ℕ) → Promise E old (at_pace n p) → p ≤ n.pace

abbrev pub prompt_pace : Numbers → ℕ
prompt_pace n = cond (n.rolled == 1) (min n.pace (byte n.heard)) n.pace

pub record Prompt (E : Emergencies) (old : ℕ) (n : Numbers) : Type 0 where
  -- the highest promised pace
  pub highest : ℕ
  pub latest : Latest E old (at_pace n highest)
  pub pace : n.pace ≡ prompt_pace (at_pace n highest)
