-- A train that has rolled as the late train, and then braked at the first metre, keeps the promise. Assumes nothing.
use Rattle.std.proofs.Common.{◌≡◌, ℕ, ◌≤◌, min, Bool, true, false, cond, eqb, sym, refl, subst, le_trans, arith}
use Rattle.codes.specs.declared.gradients.Class.{Class}
use Rattle.codes.specs.Speeds.{byte}
use Rattle.laws.specs.Books.{Emergencies}
use Rattle.trains.specs.Braking.{Numbers, Promise, Rolls}
use Rattle.trains.specs.Latest.{at_pace, prompt_pace, Latest, Prompt}

-- a lower pace keeps the promise
slower : {E : Emergencies} {old : ℕ} {n : Numbers} (p : ℕ) → p ≤ n.pace → Promise E old n → Promise E old (at_pace n p)
slower p low promise =
    record { steady = le_trans low promise.steady; braked = λ v r came heard below spent. le_trans low (promise.braked v r came heard below spent) }

cond_low : (b : Bool) (pace code : ℕ) → cond b (min pace code) pace ≤ pace
cond_low true pace code = omega arith
cond_low false pace code = omega arith

module _ {E : Emergencies} {late after : Numbers} (braked : after ≡ at_pace late (prompt_pace late)) where
  pub rolls_promptly : {class : Class} {m : Numbers} → Rolls E class m late → Rolls E class m after
  rolls_promptly {class} {m} rolls =
      subst (λ n. Rolls E class m n) (sym braked)
      (record {
        carried = rolls.carried;
        heard = rolls.heard;
        rolled = rolls.rolled;
        gradient = rolls.gradient;
        promise = slower (prompt_pace late) (cond_low (eqb late.rolled 1) late.pace (byte late.heard)) rolls.promise;
      })

  pub prompt_from_latest : {old : ℕ} → Latest E old late → Prompt E old after
  prompt_from_latest {old} latest = subst (λ n. Prompt E old n) (sym braked) (record { highest = late.pace; latest = latest; pace = refl })
