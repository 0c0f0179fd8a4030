-- An order that is taken tells the phase. Assumes nothing.
use Rattle.std.proofs.Common.{◌≡◌, Bool, true, false, sym, refl, ◌∙◌}
use Rattle.std.proofs.lemmas.Bool.{false≢true}
use Rattle.driving.specs.Journeys.{Journey}
use Rattle.sheet.specs.Sheets.{Pass, Phase, drawing, closed, passed, running}

module _ (test : Phase → Bool) (not-passed : (pass : Pass) → test (passed pass) ≡ false) (not-running : (pass : Pass) (journey : Journey) → test (running pass journey) ≡ false) where
  pub only_drawing : test closed ≡ false → (phase : Phase) → test phase ≡ true → phase ≡ drawing
  only_drawing not-closed drawing taken = refl
  only_drawing not-closed closed taken = absurd (false≢true (sym not-closed ∙ taken))
  only_drawing not-closed (passed pass) taken = absurd (false≢true (sym (not-passed pass) ∙ taken))
  only_drawing not-closed (running pass journey) taken = absurd (false≢true (sym (not-running pass journey) ∙ taken))

  pub only_closed : test drawing ≡ false → (phase : Phase) → test phase ≡ true → phase ≡ closed
  only_closed not-open drawing taken = absurd (false≢true (sym not-open ∙ taken))
  only_closed not-open closed taken = refl
  only_closed not-open (passed pass) taken = absurd (false≢true (sym (not-passed pass) ∙ taken))
  only_closed not-open (running pass journey) taken = absurd (false≢true (sym (not-running pass journey) ∙ taken))
