-- `state::form::is_zero` meets its contract: what is or-ed together is zero where each byte is.
use Rattle.std.proofs.Common.{rules, ◌≡◌, ℕ, bit_or, refl}
use Rattle.std.specs.List.{fold}
use Rattle.state.proofs.FormLoops.{or_fold}
use Rattle.state.proofs.form.is_zero.Goals as goal

pub returns : goal.returns
returns c =
    let ored : c.fold.result ≡ fold (λ (a b : ℕ). bit_or a b) 0 c.args.s.now = search rules in
    rw (ored, or_fold c.args.s.now 0) refl
