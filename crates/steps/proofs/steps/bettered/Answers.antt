-- `steps::steps::bettered` meets its contract: a held datum is a row that has terms (`any-data`).
use mathlib.Core.Path.{sym, ◌∙◌}
use mathlib.Core.Bool.{◌&&◌}
use Rattle.std.proofs.Common.{rules, tests}
use Rattle.std.proofs.lemmas.Iterator.{YieldsList-from_slice}
use Rattle.std.proofs.lemmas.Iterator.Search.{any_from_yields_List}
use Rattle.state.specs.code.Tables.{has_terms, terms_of, datum_of, datum_in}
use Rattle.steps.specs.Steps.{betters}
use Rattle.steps.proofs.HeldLaws.{any-data}
use Rattle.steps.proofs.steps.bettered.Goals as goal

pub returns : goal.returns
returns c =
    let n = datum_of c.args.new c.args.p.now in
    let rows = any_from_yields_List (λ r. has_terms (terms_of r) && betters (datum_in r) n) _ _ c.any.result c.any.ensures.ran (YieldsList-from_slice c.args.held.now cc) (λ x b q k. search (rules, tests)) in
    rows ∙ sym (any-data (λ d. betters d n) c.args.held.now)
