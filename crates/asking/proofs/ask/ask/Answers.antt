-- `asking::ask::ask` meets its contract: at the limits 0 and 1 no search is needed, nor where the degrees decide; else the arrays are as large as the
-- rows ask.
use mathlib.Core.Path.{sym, ◌∙◌}
use native.Mathlib.Omega.{arith}
use Rattle.state.specs.Layout.{state_of}
use Rattle.state.proofs.StateLaws.{form_ok, length-entries, length-held}
use Rattle.asking.proofs.QuickLaws.{hopeless-contradicted, affordable_open}
use Rattle.asking.proofs.ask.ask.Goals as goal

pub returns-then-hopeless : goal.returns-then-hopeless
returns-then-hopeless c =
    hopeless-contradicted _ _ (form_ok _ c.args.s.sound) (sym c.hopeless.ensures ∙ c.if-hopeless.true)

pub returns-then-affordable : goal.returns-then-affordable
unfolding state_of
returns-then-affordable c =
    let bytes = c.args.s.bytes.now in
    affordable_open _ (state_of bytes) (form_ok bytes c.args.s.sound) _
    (omega (arith, c.known-n.ensures.value, c.held.ensures.value, length-entries bytes, length-held bytes))
    (sym c.affordable.ensures ∙ c.if-affordable.true)
