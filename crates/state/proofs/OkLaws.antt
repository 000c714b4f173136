-- Right predicates and data, by their facts: the tests of `specs.Form` taken apart and put together.
-- No contract cites this file. Assumes nothing.
use Prim.Native.Nat.{ℕ, ◌≤◌, ◌<◌}
use mathlib.Core.List.{List}
use lib.Dec.{T, leb→le, ltb→lt, le→leb, lt→ltb}
use lib.ListN.{length}
use Rattle.predicates.specs.Lists.{In}
use Rattle.predicates.specs.Predicates.{is_normal}
use Rattle.predicates.proofs.ListLaws.{both, both_l, both_r, all_in, all_out}
use Rattle.state.specs.Model.{Datum, end_limit}
use Rattle.state.specs.Form.{term_fits, terms_fit, datum_ok}
use Rattle.state.specs.Layout.{datum_terms}

-- ---- right predicates and data, by their facts

pub record OkTerms (own width : ℕ) (p : List ℕ) : Type 0 where
  pub some : 1 ≤ length p
  pub few : length p ≤ width
  pub norm : T (is_normal p)
  pub each : (t : ℕ) → In t p → T (term_fits own t)

pub ok_terms_out : (own width : ℕ) (p : List ℕ) → T (terms_fit own width p) → OkTerms own width p
unfolding terms_fit
ok_terms_out own width p h =
    record {
      some = leb→le 1 (length p) (search both_l);
      few = leb→le (length p) width (search (both_l, both_r) depth 9);
      norm = search (both_l, both_r) depth 9;
      each = all_out (term_fits own) p (search (both_l, both_r) depth 9);
    }

pub ok_terms_in : (own width : ℕ) (p : List ℕ) → OkTerms own width p → T (terms_fit own width p)
unfolding terms_fit
ok_terms_in own width p o =
    let a = le→leb 1 (length p) o.some in
    let b = le→leb (length p) width o.few in
    let c = all_in (term_fits own) p o.each in
    search (both, o.norm) depth 9

pub record OkDatum (own : ℕ) (d : Datum) : Type 0 where
  pub ends : d.left ≤ d.right
  pub below : d.right < end_limit
  pub fit : T (terms_fit own datum_terms d.terms)

pub ok_datum_out : (own : ℕ) (d : Datum) → T (datum_ok own d) → OkDatum own d
unfolding datum_ok
ok_datum_out own d h =
    record {
      ends = leb→le d.left d.right (search both_l);
      below = ltb→lt d.right end_limit (search (both_l, both_r) depth 9);
      fit = search (both_l, both_r) depth 9;
    }

pub ok_datum_in : (own : ℕ) (d : Datum) → OkDatum own d → T (datum_ok own d)
unfolding datum_ok
ok_datum_in own d o =
    let a = le→leb d.left d.right o.ends in
    let b = lt→ltb d.right end_limit o.below in
    search (both, o.fit) depth 9
