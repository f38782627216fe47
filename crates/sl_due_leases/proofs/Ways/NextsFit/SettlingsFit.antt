-- What a settling decides fits: an open ballot is run again, a mode left over is cleared, an owed free is looked for.
use Rattle.sl_due_facts.proofs.Acts.Pairs.Decisions.{begin_cases, within_cases}
use Rattle.sl_due_leases.proofs.Ways.WaysAreLawful.BallotsBegin.{MayBegin, begins_again, phase1_is_lawful}
use Rattle.sl_due_leases.proofs.Ways.WayNumbers.{IsOpened, is_opened, is_verified}
use Rattle.sl_due_leases.specs.Ways.Nexts.{Moment, NextIs, calls_at, context_at, known_at, place_at}
use Rattle.sl_trace.specs.Ballots.{moded_block, phase1_block}
use Rattle.sl_trace.specs.LeaseDecisions.{begin_next, phase1_next, refuses, settle_begin, settle_next, settle_owed, within_turn}
use Rattle.sl_trace.specs.Leases.{block_submitted, known, last_blocks, mode_gen_of, open_ballot, owed_free}
use Rattle.sl_trace.specs.declared.lease.Aim.TheVariants.{Acquires, Converts, Releases, Settles}
use Rattle.sl_trace.specs.declared.lease.Aim.{Aim}
use Rattle.sl_trace.specs.declared.lease.LeaseNext.TheVariants.{Nothing, WriteBlock}
use Rattle.sl_trace.specs.declared.lease.LeaseNext.{LeaseNext}
use Rattle.sl_trace.specs.declared.lease.Owed.TheVariants.{BallotOwed, FreeOwed, ModeOwed}
use Rattle.sl_trace.specs.declared.lease.Owed.{Owed}
use Rattle.sl_sector.specs.declared.sector.Block.{Block}
use Rattle.sl_due_facts.specs.Facts.WayFacts.{IsVerified, Ways}
use Rattle.sl_trace.specs.Traces.{is_before_input}
use Rattle.sl_trace.specs.declared.effects.LeaseStep.TheVariants.{ClearMode, Phase1Write}
use Rattle.sl_trace.specs.declared.reply.Limited.TheVariants.{Lver as LverLimit, Mbal as MbalLimit, Turn as TurnLimit}
use Rattle.sl_trace.specs.declared.reply.Reply.TheVariants.{Limit as LimitReached}
use Rattle.sl_trace.specs.declared.reply.Reply.{Reply}
use Rattle.sl_words.specs.Bounds.{is_number}
use Rattle.sl_words.specs.Words.{present}
use Rattle.std.proofs.Common.{refl, subst, sym}
use Rattle.std.specs.Option.{option_map_or}
use Rattle.std.specs.Prelude.{Bool, None, Option, Some, false, not, option_map, true, ℕ, ◌&&◌, ◌≡◌}

-- A refusal that is none before an input fits.
pub refusal_is : (x : Moment) (aim : Aim) (r : Reply) → is_before_input r ≡ false → NextIs x (refuses aim r)
refusal_is x (Acquires mode) r is = is
refusal_is x (Converts mode) r is = is
refusal_is x Releases r is = is
refusal_is x Settles r is = tt

block_is : (x : Moment) (aim : Aim) (b : Block) (c d : Bool) → NextIs x (WriteBlock Phase1Write b)
    → NextIs x (elim c as (λ z. LeaseNext) [
      | false ↦ refuses aim (LimitReached LverLimit)
      | true ↦ elim d as (λ z. LeaseNext) [ false ↦ refuses aim (LimitReached MbalLimit) | true ↦ WriteBlock Phase1Write b ]
    ])
block_is x aim b false d h = refusal_is x aim (LimitReached LverLimit) refl
block_is x aim b true false h = refusal_is x aim (LimitReached MbalLimit) refl
block_is x aim b true true h = h

-- A ballot begins.
pub begin_is : (x : Moment) (aim : Aim) (n : ℕ) (own : Block) → MayBegin x.setting x.trace x.session x.at n own → IsVerified (context_at x) (calls_at x) → NextIs x (begin_next (place_at x) (known_at x) aim n)
unfolding begin_next known phase1_block
begin_is x aim n own may named =
    let b : Block = phase1_block (known_at x).self x.setting.layout.hosts n (known_at x).shared (mode_gen_of (known_at x)) own (present (last_blocks x.setting.layout (calls_at x))) in
    subst (λ (o : Option Block). NextIs x (elim o as (λ z. LeaseNext) [
      | None ↦ Nothing
      | Some z ↦ phase1_next aim (phase1_block (known_at x).self x.setting.layout.hosts n (known_at x).shared (mode_gen_of (known_at x)) z (present (last_blocks x.setting.layout (calls_at x))))
    ])) (sym may.known)
    (block_is x aim b (is_number b.lver) (is_number b.mbal)
    (((λ c. phase1_is_lawful x.setting x.trace x.session x.at n own (known_at x).shared (mode_gen_of (known_at x)) may c), named), (refl, refl)))

-- ---- what is owed

cleared : (x : Moment) (o : Option Block) → block_submitted (calls_at x) ≡ o → NextIs x (option_map_or (λ own. WriteBlock ClearMode (moded_block own false 0)) o Nothing)
cleared x None is = tt
cleared x (Some own) is = ((λ c op. record { own = own; known = is; wrote = op }), (refl, refl))

freed_by : (x : Moment) → open_ballot x.setting.layout (calls_at x) ≡ None → (context_at x).aims x.work ≡ Some Settles → (o : Option ℕ)
    → NextIs x (settle_owed (place_at x) (known_at x) (option_map (λ n. FreeOwed n) o))
freed_by x none aimed None = tt
freed_by x none aimed (Some n) = λ c op. record { reads = op; settles = aimed; concluded = none }

moded_by : (x : Moment) → open_ballot x.setting.layout (calls_at x) ≡ None → (context_at x).aims x.work ≡ Some Settles → (b : Bool)
    → NextIs x (settle_owed (place_at x) (known_at x) (elim b as (λ z. Option Owed) [ true ↦ Some ModeOwed | false ↦ option_map (λ n. FreeOwed n) (owed_free (known_at x)) ]))
unfolding known
moded_by x none aimed true = cleared x (block_submitted (calls_at x)) refl
moded_by x none aimed false = freed_by x none aimed (owed_free (known_at x))

ballot_by : (x : Moment) → Ways (context_at x) (calls_at x) → (context_at x).aims x.work ≡ Some Settles → (o : Option ℕ) → open_ballot x.setting.layout (calls_at x) ≡ o
    → NextIs x (settle_owed (place_at x) (known_at x) (elim o as (λ z. Option Owed) [
      | Some n ↦ Some (BallotOwed n)
      | None ↦ elim ((known_at x).shown && not (known_at x).shared) as (λ z. Option Owed) [ true ↦ Some ModeOwed | false ↦ option_map (λ n. FreeOwed n) (owed_free (known_at x)) ]
    ]))
ballot_by x ways aimed None is = moded_by x is aimed ((known_at x).shown && not (known_at x).shared)
ballot_by x ways aimed (Some n) is =
    let o : IsOpened (calls_at x) n = is_opened (context_at x) (calls_at x) ways n is in
    begin_is x Settles n o.own (begins_again x.setting x.trace x.session x.at n o) (is_verified (context_at x) (calls_at x) ways o.own o.known)

-- A settling.
pub settling_is : (x : Moment) → Ways (context_at x) (calls_at x) → (context_at x).aims x.work ≡ Some Settles → NextIs x (settle_next (place_at x) (known_at x))
unfolding settle_next known
settling_is x ways aimed = ballot_by x ways aimed (open_ballot x.setting.layout (calls_at x)) refl

-- ---- how a settling begins, and what its turn bounds

-- With pairs it reads before its block.
pub beginning_is : (x : Moment) → Ways (context_at x) (calls_at x) → (context_at x).aims x.work ≡ Some Settles → NextIs x (settle_begin (place_at x) (known_at x))
beginning_is x ways aimed =
    begin_cases (NextIs x) (place_at x) (known_at x) (λ paired owes c op. record { paired = paired; reads = op; settles = aimed }) (λ none. settling_is x ways aimed)

-- What would pass its turn's limit is refused.
pub within_is : (x : Moment) (aim : Aim) (next : LeaseNext) → NextIs x next → NextIs x (within_turn (place_at x) (known_at x) aim next)
within_is x aim next h = within_cases (NextIs x) (place_at x) (known_at x) aim next (λ fits. h) (λ paired over writes. refusal_is x aim (LimitReached TurnLimit) refl)
