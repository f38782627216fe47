-- Areas are compared by their places.
use Rattle.sl_trace.specs.Traces.{same_spot}
use Rattle.sl_trace.specs.declared.effects.Spot.{Spot}
use Rattle.sl_words.proofs.WordLaws.{and_true}
use Rattle.std.proofs.Common.{ap, ◌∙◌}
use Rattle.std.proofs.lemmas.Bool.Decides.{Decides-eqb}
use Rattle.std.specs.Cmp.{IsEquivalence, nat_eq_equiv}
use Rattle.std.specs.Cmp.Lexicographic.{nat_list_eq_equiv}
use Rattle.std.specs.Hash as fed
use Rattle.std.specs.Prelude.{Bool, bytes_eq, true, ◌&&◌, ◌==◌, ◌≡◌}

both : (a b c d : Bool) → a ≡ c → b ≡ d → (a && b) ≡ (c && d)
both a b c d h k = ap (λ x. x && b) h ∙ ap (λ x. c && x) k

pub spot_equiv : IsEquivalence same_spot
spot_equiv =
    record {
      refl = λ x. both (x.base == x.base) (bytes_eq x.path x.path) true true (nat_eq_equiv.refl x.base) (nat_list_eq_equiv.refl x.path);
      symm = λ x y. both (x.base == y.base) (bytes_eq x.path y.path) (y.base == x.base) (bytes_eq y.path x.path) (nat_eq_equiv.symm x.base y.base) (nat_list_eq_equiv.symm x.path y.path);
      congr = λ x y z h.
          let parts = and_true (x.base == y.base) (bytes_eq x.path y.path) h in
          both (x.base == z.base) (bytes_eq x.path z.path) (y.base == z.base) (bytes_eq y.path z.path) (nat_eq_equiv.congr x.base y.base z.base parts.0)
          (nat_list_eq_equiv.congr x.path y.path z.path parts.1);
    }

pub respects_base : (a b : Spot) → same_spot a b ≡ true → fed.u64 a.base ≡ fed.u64 b.base
respects_base a b h = ap fed.u64 ((Decides-eqb a.base b.base).0 (and_true (a.base == b.base) (bytes_eq a.path b.path) h).0)
