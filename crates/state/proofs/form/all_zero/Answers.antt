-- `state::form::all_zero` meets its contract: what is or-ed together is zero where each mask is.
use Rattle.std.proofs.Common.{rules, ◌≡◌, ℕ, bit_or, refl}
use Rattle.std.specs.List.{fold}
use Rattle.state.proofs.FormLoops.{or_fold}
use Rattle.state.proofs.form.all_zero.Goals as goal

pub returns : goal.returns
returns c =
    let ored : c.fold.result ≡ fold (λ (a b : ℕ). bit_or a b) 0 c.args.p.now = search rules in
    rw (ored, or_fold c.args.p.now 0) refl
