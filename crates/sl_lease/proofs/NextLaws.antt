-- Ballots that begin.
use Rattle.sl_host_state.specs.KeptState.{LeaseState}
use Rattle.sl_host_state.specs.HostStands.{top_mbal}
use Rattle.sl_host_state.specs.declared.kept_parts.TopNumber.{TopNumber}
use Rattle.sl_lease.specs.LeaseQuestions.{TopStands, begin_above, block_showing, gen_with}
use Rattle.sl_lease.specs.Side.{known_with, place_of}
use Rattle.sl_lease.specs.declared.outer_facts.Held.{Held}
use Rattle.sl_lease.specs.declared.side.Side.{Side}
use Rattle.sl_trace.specs.Ballots.{in_instance, number_above, phase1_block}
use Rattle.sl_trace.specs.LeaseDecisions.{LeasePlace, begin_next, phase1_next}
use Rattle.sl_trace.specs.Leases.{LeaseKnown, mode_gen_of, own_known, own_or_read}
use Rattle.sl_trace.specs.declared.lease.Aim.{Aim}
use Rattle.sl_trace.specs.declared.lease.Aim.TheVariants.{Settles}
use Rattle.sl_trace.specs.declared.lease.LeaseNext.TheVariants.{Nothing}
use Rattle.sl_trace.specs.declared.lease.LeaseNext.{LeaseNext}
use Rattle.sl_sector.specs.declared.sector.Block.{Block}
use Rattle.sl_sector.specs.declared.sector.Owner.{Owner}
use Rattle.sl_words.specs.Words.{greatest, present}
use Rattle.std.proofs.Common.{Bool, List, None, Option, Some, [], ap, arith, cond, eq-eqb, false, if◌then◌else◌, map, max, refl, sym, true, ℕ, ◌==◌, ◌∙◌, ◌∷◌, ◌≡◌}

-- The block of phase 1 is of its instance.
pub lver-phase1_block : (self : Owner) (hosts n : ℕ) (shared : Bool) (mode_gen : ℕ) (own : Block) (seen : List Block) → (phase1_block self hosts n shared mode_gen own seen).lver ≡ n
unfolding phase1_block
lver-phase1_block self hosts n shared mode_gen own seen = refl

-- A ballot begins with the own block.
pub begins_with : (p : LeasePlace) (k : LeaseKnown) (aim : Aim) (n : ℕ) (own : Block) (g : ℕ) (r : LeaseNext) → own_known k ≡ Some own → g ≡ mode_gen_of k
    → r ≡ phase1_next aim (phase1_block k.self p.layout.hosts n k.shared g own (present k.read)) → r ≡ begin_next p k aim n
unfolding begin_next
begins_with p k aim n own g r is gen e =
    e ∙ ap (λ x. phase1_next aim (phase1_block k.self p.layout.hosts n k.shared x own (present k.read))) gen
    ∙ ap (λ o. elim o as (λ _. LeaseNext) [ None ↦ Nothing | Some own ↦ phase1_next aim (phase1_block k.self p.layout.hosts n k.shared (mode_gen_of k) own (present k.read)) ]) (sym is)

-- ---- above a number

numbers : List Block → ℕ
numbers bs = greatest (map (λ b. b.mbal) bs)

one_more : (b : Bool) (x : Block) (xs : List Block) → numbers (cond b (x ∷ xs) xs) ≡ cond b (max x.mbal (numbers xs)) (numbers xs)
unfolding numbers
one_more true x xs = refl
one_more false x xs = refl

shown_alone : (n : ℕ) (own : Block) (t : ℕ) → numbers (in_instance n (block_showing own n t ∷ [])) ≡ t
unfolding numbers
shown_alone n own t =
    let none : max t 0 ≡ t = omega arith in
    one_more (n == n) (block_showing own n t) [] ∙ ap (λ b. cond b (max t 0) 0) (eq-eqb n n refl) ∙ none

numbers_in : (n : ℕ) (own : Block) (seen : List Block) (t : ℕ) → numbers (in_instance n seen) ≡ t
    → numbers (in_instance n (own ∷ seen)) ≡ numbers (in_instance n (own ∷ block_showing own n t ∷ []))
numbers_in n own seen t e =
    one_more (own.lver == n) own (in_instance n seen) ∙ ap (λ g. cond (own.lver == n) (max own.mbal g) g) (e ∙ sym (shown_alone n own t))
    ∙ sym (one_more (own.lver == n) own (in_instance n (block_showing own n t ∷ [])))

-- The block of phase 1 depends on the blocks seen by their greatest number alone.
begun_alike : (self : Owner) (hosts n : ℕ) (shared : Bool) (g : ℕ) (own : Block) (seen : List Block) (t : ℕ) → greatest (map (λ b. b.mbal) (in_instance n seen)) ≡ t
    → phase1_block self hosts n shared g own seen ≡ phase1_block self hosts n shared g own (block_showing own n t ∷ [])
unfolding phase1_block numbers
begun_alike self hosts n shared g own seen t e =
    let made : ℕ → Block = λ top.
    record {
      host = self.id;
      shared = shared;
      lver = n;
      mbal = number_above hosts self.id top;
      bal = if own.lver == n then own.bal else 0;
      inp_gen = if own.lver == n then own.inp_gen else 0;
      mode_gen = g;
      inp = if own.lver == n then own.inp else 0;
    } in
    ap made (numbers_in n own seen t e)

same_top : (t u : TopNumber) → Some t ≡ Some u → t ≡ u
same_top t u e = cc

-- An open ballot is begun anew above what is kept of the blocks read last.
pub begins_again : (z : Side) (l : LeaseState) (h : Held) (over : ℕ → ℕ → Bool) (read : List (Option Block)) (n : ℕ) (own : Block) (top : TopNumber) (r : LeaseNext)
    → l.own ≡ Some own → l.top ≡ Some top → TopStands l read → l.ballot ≡ Some n → r ≡ begin_above z h Settles n own top.mbal
    → r ≡ begin_next (place_of z) (known_with z l h over read) Settles n
begins_again z l h over read n own top r is kept stands runs e =
    let opened : (t : TopNumber) × (l.top ≡ Some t) × (t.instance ≡ n) = stands.opened n runs in
    let one : opened.0 ≡ top = same_top opened.0 top (sym opened.1 ∙ kept) in
    let of : top.instance ≡ n = ap (λ t. t.instance) (sym one) ∙ opened.2 in
    let most : top_mbal n read ≡ top.mbal = ap (λ i. top_mbal i read) (sym of) ∙ stands.greatest_is top kept in
    begins_with (place_of z) (known_with z l h over read) Settles n own (gen_with z h) r (ap (λ o. own_or_read z.me.id o read) is) refl
    (e ∙ ap (phase1_next Settles) (sym (begun_alike z.me z.geometry.hosts n h.shared (gen_with z h) own (present read) top.mbal most)))
