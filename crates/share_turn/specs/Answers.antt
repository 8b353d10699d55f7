-- What the calls answer, and what the view is then.
use Rattle.std.specs.Prelude.{◌≡◌, false}
use Rattle.share_store.specs.Log.{StartsWith}
use Rattle.share_turn.specs.declared.view.View.{View}
use Rattle.share_turn.specs.declared.held.Outcome.{Outcome}
use Rattle.share_turn.specs.declared.answers.Turn.{Turn}
use Rattle.share_turn.specs.declared.answers.Turn.TheVariants.{Got, Busy}
use Rattle.share_turn.specs.declared.answers.Look.{Look}
use Rattle.share_turn.specs.declared.answers.Look.TheVariants.{Go, Stop}
use Rattle.share_turn.specs.declared.answers.PostAnswer.{PostAnswer}
use Rattle.share_turn.specs.declared.answers.PostAnswer.TheVariants.{Posted, Late}
use Rattle.share_turn.specs.Views.{IsLegalFor, got, lost, saw_end, saw_none, after_post, came_late}

-- `Got` has a legal store that begins with what was seen; `Busy` comes where the pass tried for the turn in vain
abbrev pub Takes : View → View → Turn → Type 0
Takes v w (Got log) = IsLegalFor v.question log × StartsWith log v.seen × (w ≡ got log v)
Takes v w Busy = w ≡ lost v

-- `Stop` comes where the look found an outcome; `Go` where it found none, which no pass that knows of one is answered
abbrev pub Looks : View → View → Look → Type 0
Looks v w Stop = w ≡ saw_end v
Looks v w Go = (v.posted ≡ false) × (w ≡ saw_none v)

-- `Posted` comes where the outcome is the exchange's; `Late` hands it back where another pass was first
abbrev pub Posts : View → Outcome → View → PostAnswer → Type 0
Posts v o w Posted = w ≡ after_post o v
Posts v o w (Late back) = (back ≡ o) × (w ≡ came_late v)
