-- What is known of a lease by its calls is what is kept of it; and where no sectors are in hand the greatest number that is kept is enough.
use Rattle.sl_area.specs.AreaSizes.{Layout}
use Rattle.sl_host_law.proofs.Calls.MemberCalls.SpotsMore.{one_spot}
use Rattle.sl_due.specs.Steps.{Step, seen}
use Rattle.sl_host_law.proofs.SharedFacts.PlainLists.{at_some}
use Rattle.sl_host_state.proofs.Pairs.{first_is_kept}
use Rattle.sl_host_state.specs.KeptState.{Config, HostState, LeaseState, MemberState}
use Rattle.sl_host_state.specs.MadeEffects.{is_lease_on, new_lease}
use Rattle.sl_host_state.specs.NewHost.{IsOfProgram, sizes_in}
use Rattle.sl_host_state.specs.HostStands.{LeaseStands, top_mbal, turn_kept}
use Rattle.sl_host_state.specs.declared.kept_parts.TopNumber.{TopNumber}
use Rattle.sl_host_law.specs.Steps.Leases.{converting_next, kept_blocks, known_by, lease_at, releasing_next, settling_next, top_block}
use Rattle.sl_lease.proofs.NextLaws.{begins_again}
use Rattle.sl_lease.specs.LeaseQuestions.{TopStands, begin_above}
use Rattle.sl_lease.specs.declared.outer_facts.Held.{Held}
use Rattle.sl_lease.specs.declared.side.Side.{Side}
use Rattle.sl_trace.specs.LeaseDecisions.{begin_next, owes_block, refuses_block, settle_begin, settle_next, settle_owed, within_turn}
use Rattle.sl_trace.specs.Conversions.{convert_next}
use Rattle.sl_trace.specs.Releases.{release_next}
use Rattle.sl_trace.specs.Leases.{LeaseKnown, last_blocks, lease_calls, owed, owed_free}
use Rattle.sl_trace.specs.declared.lease.Owed.TheVariants.{BallotOwed, FreeOwed, ModeOwed}
use Rattle.sl_trace.specs.declared.lease.Owed.{Owed}
use Rattle.sl_trace.specs.declared.lease.Aim.TheVariants.{Converts, Releases, Settles}
use Rattle.sl_trace.specs.declared.lease.Aim.{Aim}
use Rattle.sl_trace.specs.declared.lease.LeaseNext.TheVariants.{ReadFor}
use Rattle.sl_trace.specs.declared.lease.LeaseNext.{LeaseNext}
use Rattle.sl_words.proofs.Lists.{find_inside}
use Rattle.sl_host_law.proofs.Questions.MembersAnswer.{members_answer}
use Rattle.sl_host_law.specs.Questions.Answers.{converting_in, known_in, place_in, releasing_in, settling_in}
use Rattle.sl_host_law.specs.Questions.Members.{IsMemberAt, exclusive_at, me_in, over_in, shared_at}
use Rattle.sl_host_law.proofs.Replies.Answers.OpenBallotsAreOwn.{IsOwn, open_is_own}
use Rattle.sl_sector.specs.declared.sector.Block.{Block}
use Rattle.sl_sector.specs.declared.sector.Owner.{Owner}
use Rattle.sl_trace.specs.Sessions.{me}
use Rattle.sl_trace.specs.Traces.{Submitted}
use Rattle.sl_trace.specs.declared.effects.Grant.{Grant}
use Rattle.sl_trace.specs.declared.effects.LeaseStep.TheVariants.{ReadBeforeBlock}
use Rattle.sl_trace.specs.declared.effects.Mode.TheVariants.{Exclusive, Shared}
use Rattle.sl_trace.specs.declared.effects.Mode.{Mode}
use Rattle.sl_trace.specs.declared.effects.Spot.{Spot}
use Rattle.sl_trace.specs.declared.input.Input.{Input}
use Rattle.sl_words.specs.Bounds.{is_number}
use Rattle.sl_words.specs.Words.{greatest}
use Rattle.std.proofs.Common.{ap, arith, eq-eqb, refl, subst, sym, ◌∙◌}
use Rattle.std.specs.Prelude.{Bool, List, None, Option, Some, cond, false, find, is_some, map, max, not, option_map, true, unwrap_or, [], ℕ, ◌&&◌, ◌+◌, ◌==◌, ◌∷◌, ◌≡◌}

module _ (i : Input) (h : HostState) (x : Step) (k : ℕ) (m : MemberState) (at : IsMemberAt i h x k m) (area : Spot) (l : LeaseState) (its : find (is_lease_on area) m.leases ≡ Some l) where
  pub calls : List Submitted
  calls = lease_calls x.setting (seen x) m.who area

  -- The lease stands for its calls.
  pub stands : LeaseStands h.config.layout m.who.lockspace (me_in m) l (lease_calls x.setting (seen x) m.who area)
  stands =
      let found = find_inside (is_lease_on area) m.leases l its in
      let place = at_some m.leases l found.0 in
      let here : area ≡ l.spot = one_spot area l.spot found.1 in
      subst (λ (s : Spot). LeaseStands h.config.layout m.who.lockspace (me_in m) l (lease_calls x.setting (seen x) m.who s)) (sym here)
      (subst (λ (o : Owner). LeaseStands h.config.layout m.who.lockspace o l (lease_calls x.setting (seen x) m.who l.spot)) (members_answer i h x k m at).me
      (subst (λ (c : Config). LeaseStands c.layout m.who.lockspace (me (seen x) m.who) l (lease_calls x.setting (seen x) m.who l.spot)) at.stands.keeps.config
      ((at.stands.keeps.members k m at.there).leases place.0 l place.1)))

  pub known_is : known_in h m x area ≡ known_by h m area l (last_blocks h.config.layout (lease_calls x.setting (seen x) m.who area))
  known_is =
      let g : Layout = h.config.layout in
      let ms : List Submitted = lease_calls x.setting (seen x) m.who area in
      let s = stands in
      let k0 : LeaseKnown = known_in h m x area in
      ap (λ o. record k0 { own = o }) s.own
      ∙ ap (λ n. record k0 { own = l.own; name = n }) s.name
      ∙ ap (λ n. record k0 { own = l.own; name = l.name; freed = n }) s.freed
      ∙ ap (λ n. record k0 { own = l.own; name = l.name; freed = l.freed; ballot = n }) s.ballot
      ∙ ap (λ n. record k0 { own = l.own; name = l.name; freed = l.freed; ballot = l.ballot; shown = n }) s.shown
      ∙ ap (λ n. record k0 { own = l.own; name = l.name; freed = l.freed; ballot = l.ballot; shown = l.shown; won = n }) s.won
      ∙ ap (λ n. record k0 { own = l.own; name = l.name; freed = l.freed; ballot = l.ballot; shown = l.shown; won = l.won; turn = n }) s.turn
      ∙ ap (λ n. record k0 { own = l.own; name = l.name; freed = l.freed; ballot = l.ballot; shown = l.shown; won = l.won; turn = turn_kept l.pair; kept = n }) (first_is_kept h.config.layout l.pair (lease_calls x.setting (seen x) m.who area) s.again s.kept s.second)

  -- The blocks read last.
  abbrev last : List (Option Block)
  last = last_blocks h.config.layout (lease_calls x.setting (seen x) m.who area)

  pub lease_is : lease_at m area ≡ l
  lease_is = ap (λ o. unwrap_or o (new_lease area)) its

  -- ---- the greatest number is enough

  pub read_tops : TopStands l (last_blocks h.config.layout (lease_calls x.setting (seen x) m.who area))
  read_tops = record { greatest_is = stands.top; opened = stands.opened }

  pub kept_tops : TopStands l (kept_blocks l)
  kept_tops = record { greatest_is = greatest_is; opened = stands.opened } where
    alone : (t : TopNumber) (b : Bool) → b ≡ true → greatest (map (λ (z : Block). z.mbal) (cond b (top_block t ∷ []) [])) ≡ t.mbal
    alone t true is = (let most : max t.mbal 0 ≡ t.mbal = omega arith in most)
    alone t false is = absurd cc

    greatest_is : (t : TopNumber) → l.top ≡ Some t → top_mbal t.instance (kept_blocks l) ≡ t.mbal
    greatest_is t is =
        ap (λ o. top_mbal t.instance (elim o as (λ z. List (Option Block)) [ None ↦ [] | Some u ↦ Some (top_block u) ∷ [] ])) is ∙ alone t (t.instance == t.instance) (eq-eqb t.instance t.instance refl)

  own_there : (n : ℕ) → l.ballot ≡ Some n → (b : Block) × (l.own ≡ Some b)
  own_there n open_ballot_is =
      let o : IsOwn _ n = open_is_own h.config.layout (lease_calls x.setting (seen x) m.who area) n (stands.ballot ∙ open_ballot_is) in
      (o.block, sym stands.own ∙ o.own_is)

  side : Side
  side = record { geometry = sizes_in h.config.layout; lockspace = m.who.lockspace; me = me_in m }

  held : Held
  held = record { shared = is_some (shared_at h m area); exclusive = option_map (λ g. g.lver) (exclusive_at h m area) }

  -- A ballot begins the same by any blocks that have that number.
  begins_alike : (n : ℕ) (one other : List (Option Block)) → IsOfProgram h.config.layout → l.ballot ≡ Some n → TopStands l one → TopStands l other
      → begin_next (place_in h m) (known_by h m area l one) Settles n ≡ begin_next (place_in h m) (known_by h m area l other) Settles n
  unfolding side held
  begins_alike n one other program ballot a b =
      let own = own_there n ballot in
      let top = stands.opened n ballot in
      subst (λ (g : Layout). begin_next (record { layout = g; lockspace = m.who.lockspace }) (known_by h m area l one) Settles n
      ≡ begin_next (record { layout = g; lockspace = m.who.lockspace }) (known_by h m area l other) Settles n) program
      (sym (begins_again side l held (over_in m) one n own.0 top.0 (begin_above side held Settles n own.0 top.0.mbal) own.1 top.1 a ballot refl)
      ∙ begins_again side l held (over_in m) other n own.0 top.0 (begin_above side held Settles n own.0 top.0.mbal) own.1 top.1 b ballot refl)

  pub settles_alike : (one other : List (Option Block)) → IsOfProgram h.config.layout → TopStands l one → TopStands l other
      → settle_next (place_in h m) (known_by h m area l one) ≡ settle_next (place_in h m) (known_by h m area l other)
  unfolding settle_next
  settles_alike one other program a b = by l.ballot refl where
    free : (o : Option ℕ) → settle_owed (place_in h m) (known_by h m area l one) (option_map (λ n. FreeOwed n) o) ≡ settle_owed (place_in h m) (known_by h m area l other) (option_map (λ n. FreeOwed n) o)
    free None = refl
    free (Some n) = refl

    later : (t : Bool)
        → settle_owed (place_in h m) (known_by h m area l one) (elim t as (λ z. Option Owed) [ true ↦ Some ModeOwed | false ↦ option_map (λ n. FreeOwed n) (owed_free (known_by h m area l one)) ])
        ≡ settle_owed (place_in h m) (known_by h m area l other) (elim t as (λ z. Option Owed) [ true ↦ Some ModeOwed | false ↦ option_map (λ n. FreeOwed n) (owed_free (known_by h m area l other)) ])
    later true = refl
    later false = free (owed_free (known_by h m area l one))

    by : (o : Option ℕ) → l.ballot ≡ o
        → settle_owed (place_in h m) (known_by h m area l one)
        (elim o as (λ z. Option Owed) [
          | Some n ↦ Some (BallotOwed n)
          | None ↦ elim (l.shown && not (is_some (shared_at h m area))) as (λ z. Option Owed) [ true ↦ Some ModeOwed | false ↦ option_map (λ n. FreeOwed n) (owed_free (known_by h m area l one)) ]
        ])
        ≡ settle_owed (place_in h m) (known_by h m area l other)
        (elim o as (λ z. Option Owed) [
          | Some n ↦ Some (BallotOwed n)
          | None ↦ elim (l.shown && not (is_some (shared_at h m area))) as (λ z. Option Owed) [ true ↦ Some ModeOwed | false ↦ option_map (λ n. FreeOwed n) (owed_free (known_by h m area l other)) ]
        ])
    by None is = later (l.shown && not (is_some (shared_at h m area)))
    by (Some n) is = begins_alike n one other program is a b

  -- The limit of turns is asked of the turn alone.
  pub within_alike : (aim : Aim) (one other : List (Option Block)) (a b : LeaseNext) → a ≡ b → within_turn (place_in h m) (known_by h m area l one) aim a ≡ within_turn (place_in h m) (known_by h m area l other) aim b
  unfolding within_turn
  within_alike aim one other a b same =
      ap (λ n. elim (h.config.layout.paired && not (is_number (turn_kept l.pair + 1))) as (λ z. LeaseNext) [ false ↦ n | true ↦ refuses_block aim n ]) same

  -- And whether a block is owed of what is kept.
  begins_settling : (one other : List (Option Block)) → IsOfProgram h.config.layout → TopStands l one → TopStands l other
      → settle_begin (place_in h m) (known_by h m area l one) ≡ settle_begin (place_in h m) (known_by h m area l other)
  unfolding settle_begin
  begins_settling one other program a b =
      ap (λ n. elim (h.config.layout.paired && owes_block (owed (known_by h m area l one))) as (λ z. LeaseNext) [ true ↦ ReadFor ReadBeforeBlock | false ↦ n ]) (settles_alike one other program a b)

  pub settles_as_known : IsOfProgram h.config.layout → settling_next h m area ≡ settling_in h m x area
  settles_as_known program =
      ap (λ z. within_turn (place_in h m) (known_by h m area z (kept_blocks z)) Settles (settle_begin (place_in h m) (known_by h m area z (kept_blocks z)))) lease_is
      ∙ within_alike Settles (kept_blocks l) last (settle_begin (place_in h m) (known_by h m area l (kept_blocks l))) (settle_begin (place_in h m) (known_by h m area l last))
      (begins_settling (kept_blocks l) last program kept_tops read_tops)
      ∙ sym (ap (λ k. within_turn (place_in h m) k Settles (settle_begin (place_in h m) k)) known_is)

  pub releases_as_known : (g : Grant) → releasing_next h m area g ≡ releasing_in h m x area g.mode g.lver
  releases_as_known g =
      ap (λ z. within_turn (place_in h m) (known_by h m area z (kept_blocks z)) Releases (release_next (place_in h m) (known_by h m area z (kept_blocks z)) g.mode g.lver)) lease_is
      ∙ within_alike Releases (kept_blocks l) last (release_next (place_in h m) (known_by h m area l (kept_blocks l)) g.mode g.lver) (release_next (place_in h m) (known_by h m area l last) g.mode g.lver) (by g.mode)
      ∙ sym (ap (λ k. within_turn (place_in h m) k Releases (release_next (place_in h m) k g.mode g.lver)) known_is) where
        by : (w : Mode) → release_next (place_in h m) (known_by h m area l (kept_blocks l)) w g.lver ≡ release_next (place_in h m) (known_by h m area l last) w g.lver
        by Shared = refl
        by Exclusive = refl

  pub converts_as_known : (mode : Mode) (name : List ℕ) → converting_next h m area mode name ≡ converting_in h m x area mode name
  converts_as_known mode name =
      ap (λ z. within_turn (place_in h m) (known_by h m area z (kept_blocks z)) (Converts mode) (convert_next (known_by h m area z (kept_blocks z)) mode name)) lease_is
      ∙ within_alike (Converts mode) (kept_blocks l) last (convert_next (known_by h m area l (kept_blocks l)) mode name) (convert_next (known_by h m area l last) mode name) (by mode)
      ∙ sym (ap (λ k. within_turn (place_in h m) k (Converts mode) (convert_next k mode name)) known_is) where
        by : (w : Mode) → convert_next (known_by h m area l (kept_blocks l)) w name ≡ convert_next (known_by h m area l last) w name
        by Shared = refl
        by Exclusive = refl
