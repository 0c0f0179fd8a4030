-- The highest promised pace, from the code that a train came with and the lowest code that it has to be down to. Assumes nothing.
use Rattle.std.proofs.Common.{◌≡◌, ℕ, ◌<◌, ◌≤◌, min, max, true, not, ◌&&◌, ltb, leb, Some, None, Option, subst, arith}
use Rattle.std.specs.Option.{option_map_or}
use Rattle.std.specs.List.{find}
use borrow.Author.Tests.{both_ways}
use Rattle.std.proofs.lemmas.Bool.Decides.{nat_tests}
use Rattle.codes.specs.declared.speeds.Speed.{Speed}
use Rattle.codes.specs.declared.speeds.Code.{Code}
use Rattle.codes.specs.declared.speeds.Code.TheVariants.{Go}
use Rattle.codes.specs.Speeds.{kmh, byte, codes}
use Rattle.laws.specs.Books.{Emergencies}
use Rattle.trains.specs.Braking.{Numbers, Lowest, Promise}
use Rattle.trains.specs.Latest.{at_pace, down_to, Latest}
use Rattle.trains.proofs.Rising.{Least, least_found, reaches, lowest_found}

pub byte_within : (c : Code) → byte c ≤ 120
byte_within c = grind arith

same_speed : (v w : Speed) → kmh v ≤ kmh w → kmh w ≤ kmh v → v ≡ w
same_speed v w low high = grind arith

-- a pace has one lowest code
lowest_one : (pace : ℕ) (v w : Speed) → Lowest pace (Go v) → Lowest pace (Go w) → v ≡ w
lowest_one pace v w p q = same_speed v w (p.lowest (Go w) q.reaches) (q.lowest (Go v) p.reaches)

tested : (heard to from metres rolled : ℕ) → heard ≤ to → to < from → metres ≤ rolled → (not (ltb to heard) && (ltb to from && leb metres rolled)) ≡ true
tested heard to from metres rolled a b c = grind (arith, nat_tests)

test_tells : (heard to from metres rolled : ℕ) → (not (ltb to heard) && (ltb to from && leb metres rolled)) ≡ true → (heard ≤ to) × (to < from) × (metres ≤ rolled)
test_tells heard to from metres rolled e = grind (arith, nat_tests)

module _ (E : Emergencies) (old : ℕ) (n : Numbers) where
  -- the code heard, or the pace before
  abbrev most : ℕ
  most = max old (byte n.heard)

  -- with the speed known that a train came with, the promise is on the codes that it has to be down to
  promise_from_due : (p : ℕ) (v : Speed) → Lowest n.carried (Go v) → p ≤ most → ((r : Code) → down_to E n v r ≡ true → p ≤ byte r) → Promise E old (at_pace n p)
  promise_from_due p v came within due =
      record {
        steady = within;
        braked = λ w r came' heard below spent. due r (tested _ _ _ _ _ heard
            (subst (λ u. byte r < kmh u) (lowest_one _ w v came' came) below)
            (subst (λ u. E n.gradient u r ≤ n.rolled) (lowest_one _ w v came' came) spent));
      }

  due_from_promise : (p : ℕ) (v : Speed) → Lowest n.carried (Go v) → Promise E old (at_pace n p) → (r : Code) → down_to E n v r ≡ true → p ≤ byte r
  due_from_promise p v came promise r due =
      let told = test_tells _ _ _ _ _ due in promise.braked v r came told.0 told.1 told.2

  -- the highest pace of a train that has to be down to no code yet, or to some lowest code
  latest_least : {p : ℕ} {v : Speed} → Lowest n.carried (Go v) → (o : Option Code) → Least (down_to E n v) o → p ≡ option_map_or (λ code. min most (byte code)) o most
      → Latest E old (at_pace n p)
  latest_least {p} {v} came None none is =
      record {
        promised = promise_from_due p v came (omega arith) (λ r due. absurd (both_ways _ (none r) due));
        highest = λ p promise. let within = promise.steady in omega arith;
      }
  latest_least {p} {v} came (Some low) least is =
      record {
        promised = promise_from_due p v came (omega arith) (λ r due. let above = least.1 r due in omega arith);
        highest = λ q promise. let down = due_from_promise q v came promise low least.0 in let within = promise.steady in omega arith;
      }

  pub latest_due : {p : ℕ} (v : Speed) → find (reaches n.carried) codes ≡ Some (Go v)
      → p ≡ option_map_or (λ code. min most (byte code)) (find (down_to E n v) codes) most → Latest E old (at_pace n p)
  latest_due v came is = latest_least (lowest_found n.carried (Go v) came) (find (down_to E n v) codes) (least_found (down_to E n v)) is
