-- Why an instance begins, in numbers.
use Rattle.sl_due_leases.specs.Ways.Instances.{Block_leads, One_is_done, Own_goes_on, WhyInstance}
use Rattle.sl_trace.specs.Ballots.{counted_lver, instance_of, is_counted_free, owner_of, same_owner}
use Rattle.sl_trace.specs.Leases.{LeaseKnown, instance_for, is_over_owner, top_lver}
use Rattle.sl_trace.specs.declared.lease.Instance.TheVariants.{Begins, HeldAlready}
use Rattle.sl_trace.specs.declared.lease.Instance.{Instance}
use Rattle.sl_sector.specs.declared.sector.Block.{Block}
use Rattle.sl_sector.specs.declared.sector.Leader.{Leader}
use Rattle.sl_sector.specs.declared.sector.Owner.{Owner}
use Rattle.sl_words.proofs.CaseLaws.{false_is_true}
use Rattle.sl_words.proofs.ListLaws.{greatest-cons}
use Rattle.sl_words.specs.Words.{greatest, present}
use Rattle.std.proofs.Common.{ap, arith, inl, inr, refl, sym, tests}
use Rattle.std.specs.Prelude.{Bool, List, Option, false, filter, if◌then◌else◌, map, max, nat_lt, not, true, ℕ, ◌+◌, ◌<◌, ◌==◌, ◌≡◌, ◌≤◌, ◌||◌}

abbrev number_begun : Instance → ℕ
number_begun (Begins n) = n
number_begun (HeldAlready lver owner) = 0

abbrev does_begin : Instance → Bool
does_begin (Begins n) = true
does_begin (HeldAlready lver owner) = false

same_instance : (m n : ℕ) → Begins m ≡ Begins n → n ≡ m
same_instance m n h = sym (ap (λ i. number_begun i) h)

below_top : (counted top : ℕ) → nat_lt counted top ≡ true → counted < top
below_top counted top h = grind (arith, tests)

not_below_top : (counted top : ℕ) → nat_lt counted top ≡ false → top ≤ counted
not_below_top counted top h = grind (arith, tests)

why_by : (above free over own : Bool) (counted top n lver : ℕ) (o : Owner) → nat_lt counted top ≡ above
    → (if above then Begins top else (if free || over then Begins (counted + 1) else (if own then Begins counted else HeldAlready lver o))) ≡ Begins n
    → WhyInstance free over own counted top n
why_by true free over own counted top n lver o is h = Block_leads (below_top counted top is) (same_instance top n h)
why_by false true over own counted top n lver o is h = One_is_done (not_below_top counted top is) (inl refl) (same_instance (counted + 1) n h)
why_by false false true own counted top n lver o is h = One_is_done (not_below_top counted top is) (inr refl) (same_instance (counted + 1) n h)
why_by false false false true counted top n lver o is h = Own_goes_on (not_below_top counted top is) refl refl (same_instance counted n h)
why_by false false false false counted top n lver o is h = absurd (false_is_true (ap (λ i. does_begin i) h))

pub why_instance : (k : LeaseKnown) (l : Leader) (own : Block) (read : List (Option Block)) (n : ℕ) → instance_for k l own read ≡ Begins n
    → WhyInstance (is_counted_free l k.freed) (is_over_owner k l) (same_owner (owner_of l) k.self) (counted_lver l k.freed) (top_lver own read) n
unfolding instance_of
why_instance k l own read n h =
    why_by (nat_lt (counted_lver l k.freed) (top_lver own read)) (is_counted_free l k.freed) (is_over_owner k l) (same_owner (owner_of l) k.self)
    (counted_lver l k.freed) (top_lver own read) n l.lver (owner_of l) refl h

-- The own block is not above the greatest.
pub own_below_top : (own : Block) (read : List (Option Block)) → own.lver ≤ top_lver own read
own_below_top own read =
    let rest : ℕ = greatest (map (λ (b : Block). b.lver) (filter (λ (b : Block). not (b.host == own.host)) (present read))) in
    let is : top_lver own read ≡ max own.lver rest = greatest-cons own.lver (map (λ (b : Block). b.lver) (filter (λ (b : Block). not (b.host == own.host)) (present read))) in omega (arith, is)

-- The instance is not below the own block.
pub not_below_own : (free over owned : Bool) (counted top n lver : ℕ) → lver ≤ top → WhyInstance free over owned counted top n → lver ≤ n
not_below_own free over owned counted top n lver le (Block_leads lt is) = omega (arith, le, is)
not_below_own free over owned counted top n lver le (One_is_done ge why is) = omega (arith, le, ge, is)
not_below_own free over owned counted top n lver le (Own_goes_on ge not_free owned_by is) = omega (arith, le, ge, is)
