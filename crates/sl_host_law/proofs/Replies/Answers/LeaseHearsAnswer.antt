-- A lease that hears the answer to its newest call stands for its calls with the answer.
use Rattle.sl_area.specs.AreaSizes.{Layout}
use Rattle.sl_area.specs.Pairs.{blocks_of}
use Rattle.sl_host_state.proofs.Pairs.{PairStands, at_phase, at_step, blocks_are_shown, last_kind, leader_is_shown, pair_hears, second_finds}
use Rattle.sl_host_state.specs.HeardInputs.{blocks_shown, concludes_at, is_free_step, is_last_phase, is_phase_step, leader_shown, lease_hearing, pair_hearing, read_heard, settles_at, stop_shown, top_hearing, verified_at, won_at, won_hearing}
use Rattle.sl_host_state.specs.KeptState.{LeaseState}
use Rattle.sl_host_state.specs.HostStands.{IsKeptCall, LeaseStands, free_written, top_mbal}
use Rattle.sl_host_state.specs.declared.kept_parts.LeaseCall.{LeaseCall}
use Rattle.sl_host_state.specs.declared.kept_parts.OpenCall.{OpenCall}
use Rattle.sl_host_state.specs.declared.kept_parts.TopNumber.{TopNumber}
use Rattle.sl_trace.specs.Ballots.{is_ahead, same_owner, stop_of, value_of}
use Rattle.sl_trace.specs.Leases.{Phase2_read, Phase2_write, Read_before_free, block_of_record, block_submitted, block_written, blocks_given, concludes, ended_ballot, free_left, is_again, is_area_read, is_at, is_free_write, is_leader_of, kept_before, kind_of_step, last_blocks, leader_given, leader_of_record, leader_written, lease_step, may_show_shared, name_sought, open_ballot, same_kind, settles_free, shows_settled, stop_in, value_in_end, verified_by, verified_name, was_settled, won_by}
use Rattle.sl_trace.specs.declared.lease.Stop.{Stop}
use Rattle.sl_words.proofs.Options.{mapped_value}
use Rattle.sl_host_law.proofs.Replies.PlainNumbers.{same_number}
use Rattle.sl_host_law.proofs.Replies.Answers.OpenBallotsAreOwn.{open_is_own}
use Rattle.sl_sector.specs.declared.sector.Block.{Block}
use Rattle.sl_sector.specs.declared.sector.Leader.{Leader}
use Rattle.sl_sector.specs.declared.sector.Owner.{Owner}
use Rattle.sl_sector.specs.declared.sector.Rec.{Rec}
use Rattle.sl_trace.specs.Traces.{Submitted, bytes_given, is_ok_answer, record_of}
use Rattle.sl_trace.specs.declared.effects.LeaseRead.TheVariants.{OfArea, OfBlock, OfFree, OfPhase1, OfPhase2}
use Rattle.sl_trace.specs.declared.effects.LeaseStep.TheVariants.{ReadAgain, ReadBeforeFree}
use Rattle.sl_trace.specs.declared.effects.LeaseStep.{LeaseStep}
use Rattle.sl_trace.specs.declared.effects.Purpose.{Purpose}
use Rattle.sl_trace.specs.declared.input.Answer.TheVariants.{Failed, Read, Written}
use Rattle.sl_trace.specs.declared.input.Answer.{Answer}
use Rattle.sl_words.proofs.CaseLaws.{none_some, true_is_false}
use Rattle.sl_words.specs.Words.{choose, some_is}
use Rattle.std.proofs.Common.{ap, refl, subst, sym, ◌∙◌}
use Rattle.std.specs.List.{AllByRecursion}
use Rattle.std.specs.Prelude.{Bool, IsTrue, List, None, Option, Some, cond, false, is_some, not, option_and_then, option_map, true, unwrap_or, ℕ, ◌&&◌, ◌==◌, ◌||◌, ◌∷◌, ◌≡◌}

-- A settling's read before a free is made, or made once more.
free_kind : (step : LeaseStep) → same_kind (kind_of_step step) Read_before_free ≡ is_free_step step
free_kind ReadBeforeFree = refl
free_kind (ReadAgain (OfArea name)) = refl
free_kind (ReadAgain OfFree) = refl
free_kind (ReadAgain OfBlock) = refl
free_kind (ReadAgain OfPhase1) = refl
free_kind (ReadAgain OfPhase2) = refl
free_kind step = refl

-- The lease, its newest call and the answer to it.
module _ (g : Layout) (lockspace : List ℕ) (self : Owner) (l : LeaseState) (m : Submitted) (ms : List Submitted) (w : LeaseCall) (at now : ℕ) (a : Answer) (heeded : Bool) (finds : is_again m ≡ true → kept_before g ms ≡ l.pair.first) where
  abbrev none : Submitted
  none = record m { answer = None }

  abbrev heard : Submitted
  heard = record m { answer = Some (record { at = at; reading = now; answer = a; heeded = heeded }) }

  abbrev step : LeaseStep
  step = w.step

  -- What its answer shows.
  abbrev given : Option (List (Option Block))
  given = blocks_shown g l.pair w.step a

  abbrev leader : Option Leader
  leader = leader_shown g l.pair w.step a

  blocks_are : lease_step m.call.purpose ≡ Some (w.work, w.step) → blocks_given g heard ms ≡ blocks_shown g l.pair w.step a
  blocks_are is = blocks_are_shown g l.pair heard ms w.work w.step a is refl finds

  leader_is : lease_step m.call.purpose ≡ Some (w.work, w.step) → leader_given g heard ms ≡ leader_shown g l.pair w.step a
  leader_is is = leader_is_shown g l.pair heard ms w.work w.step a is refl finds

  -- The name, where a leader is there.
  abbrev named_by : List ℕ → Option Leader → Option (List ℕ)
  named_by name q = elim q as (λ z. Option (List ℕ)) [ None ↦ None | Some d ↦ choose (is_leader_of g lockspace name d) name ]

  verified_is : lease_step m.call.purpose ≡ Some (w.work, w.step) → verified_by g lockspace heard ms ≡ verified_at g lockspace m.call.purpose leader
  verified_is is = by (name_sought m.call.purpose) where
    same : (name : List ℕ) (q : Option Leader) → named_by name q ≡ option_and_then (λ d. choose (is_leader_of g lockspace name d) name) q
    same name None = refl
    same name (Some d) = refl

    by : (o : Option (List ℕ))
        → elim o as (λ z. Option (List ℕ)) [ None ↦ None | Some name ↦ named_by name (leader_given g heard ms) ]
        ≡ option_and_then (λ name. option_and_then (λ d. choose (is_leader_of g lockspace name d) name) leader) o
    by None = refl
    by (Some name) = ap (named_by name) (leader_is is) ∙ same name leader

  none_verified : verified_by g lockspace none ms ≡ None
  none_verified = by (name_sought m.call.purpose) (is_area_read m) where
    by : (o : Option (List ℕ)) (b : Bool)
        → elim o as (λ z. Option (List ℕ)) [ None ↦ None | Some name ↦ named_by name (elim b as (λ z. Option Leader) [ false ↦ None | true ↦ None ]) ] ≡ None
    by None b = refl
    by (Some name) true = refl
    by (Some name) false = refl

  name_is : lease_step m.call.purpose ≡ Some (w.work, w.step) → verified_name g lockspace (none ∷ ms) ≡ l.name → verified_name g lockspace (heard ∷ ms) ≡ unwrap_or (verified_at g lockspace m.call.purpose leader) l.name
  name_is is before = ap name_by (verified_is is) ∙ by (verified_at g lockspace m.call.purpose leader) where
    name_by : Option (List ℕ) → List ℕ
    name_by o = elim o as (λ z. List ℕ) [ Some name ↦ name | None ↦ verified_name g lockspace ms ]

    by : (o : Option (List ℕ)) → name_by o ≡ unwrap_or o l.name
    by None = sym (ap name_by none_verified) ∙ before
    by (Some name) = refl

  shown_is : (clears : Bool) → some_is (λ b. not b.shared) (block_written m) ≡ clears → may_show_shared (none ∷ ms) ≡ l.shown → may_show_shared (heard ∷ ms) ≡ (l.shown && not (clears && is_ok_answer a))
  shown_is clears = by (block_written m) where
    both : (b : Bool) → b ≡ (b && true)
    both true = refl
    both false = refl

    never : (b : Bool) → false ≡ (b && false)
    never true = refl
    never false = refl

    cleared : (ok : Bool) → may_show_shared ms ≡ l.shown → elim ok as (λ z. Bool) [ true ↦ false | false ↦ may_show_shared ms ] ≡ (l.shown && not ok)
    cleared true same = never l.shown
    cleared false same = same ∙ both l.shown

    by_mode : (b : Block) (shared : Bool) → not shared ≡ clears
        → elim shared as (λ z. Bool) [ true ↦ true | false ↦ may_show_shared ms ] ≡ l.shown
        → elim shared as (λ z. Bool) [ true ↦ true | false ↦ elim (is_ok_answer a) as (λ z. Bool) [ true ↦ false | false ↦ may_show_shared ms ] ] ≡ (l.shown && not (clears && is_ok_answer a))
    by_mode b true is same = same ∙ both l.shown ∙ ap (λ c. l.shown && not (c && is_ok_answer a)) is
    by_mode b false is same = cleared (is_ok_answer a) same ∙ ap (λ c. l.shown && not (c && is_ok_answer a)) is

    by : (o : Option Block) → some_is (λ b. not b.shared) o ≡ clears
        → elim o as (λ z. Bool) [ None ↦ may_show_shared ms | Some b ↦ elim b.shared as (λ z. Bool) [ true ↦ true | false ↦ may_show_shared ms ] ] ≡ l.shown
        → elim o as (λ z. Bool) [ None ↦ may_show_shared ms | Some b ↦ elim b.shared as (λ z. Bool) [ true ↦ true | false ↦ elim (is_ok_answer a) as (λ z. Bool) [ true ↦ false | false ↦ may_show_shared ms ] ] ]
        ≡ (l.shown && not (clears && is_ok_answer a))
    by None is same = same ∙ both l.shown ∙ ap (λ c. l.shown && not (c && is_ok_answer a)) is
    by (Some b) is same = by_mode b b.shared is same

  -- ---- what it shows of the own block's ballot

  no_bytes : (is_some (bytes_given a) ≡ true → record_of m.call.op ≡ None) → (b : Block) → block_written m ≡ Some b → bytes_given a ≡ None
  no_bytes fits b writes = by (bytes_given a) refl where
    by : (o : Option (List ℕ)) → bytes_given a ≡ o → o ≡ None
    by None is = refl
    by (Some bytes) is = absurd (none_some b (sym (ap (λ (r : Option Rec). option_and_then block_of_record r) (fits (ap is_some is))) ∙ writes))

  stop_of_none : (o : Option Block) → option_and_then (λ own. option_map (stop_of own) None) o ≡ None
  stop_of_none None = refl
  stop_of_none (Some b) = refl

  no_stop : bytes_given a ≡ None → stop_shown l given ≡ None
  no_stop none_given = ap (λ o. stop_shown l (option_map (blocks_of g) (option_and_then (read_heard g l.pair step) o))) none_given ∙ stop_of_none l.own

  stops_are : lease_step m.call.purpose ≡ Some (w.work, w.step) → block_submitted ms ≡ l.own → stop_in g heard ms ≡ stop_shown l given
  stops_are is own =
      ap (λ o. option_and_then (λ b. option_map (stop_of b) (blocks_given g heard ms)) o) own
      ∙ ap (λ (bs : Option (List (Option Block))). option_and_then (λ b. option_map (stop_of b) bs) l.own) (blocks_are is)

  concluded : (h p last : Bool) (stop : Option (Option Stop))
      → elim (h && p) as (λ z. Bool) [ false ↦ false | true ↦ elim stop as (λ z. Bool) [ None ↦ false | Some s ↦ elim s as (λ z. Bool) [ None ↦ last | Some why ↦ is_ahead why ] ] ]
      ≡ (h && elim stop as (λ z. Bool) [ None ↦ false | Some s ↦ p && elim s as (λ z. Bool) [ None ↦ last | Some why ↦ is_ahead why ] ])
  concluded false p last stop = refl
  concluded true false last None = refl
  concluded true false last (Some s) = refl
  concluded true true last None = refl
  concluded true true last (Some s) = refl

  same_conclusion : (stop : Option (Option Stop))
      → elim stop as (λ z. Bool) [ None ↦ false | Some s ↦ is_phase_step step && elim s as (λ z. Bool) [ None ↦ is_last_phase step | Some why ↦ is_ahead why ] ] ≡ concludes_at step stop
  same_conclusion None = refl
  same_conclusion (Some s) = refl

  -- By whether the call is heeded, what it reads, and what stops the ballot.
  abbrev concluded_by : Bool → Bool → Option (Option Stop) → Bool
  concluded_by p last stop =
      elim (heeded && p) as (λ z. Bool) [ false ↦ false | true ↦ elim stop as (λ z. Bool) [ None ↦ false | Some s ↦ elim s as (λ z. Bool) [ None ↦ last | Some why ↦ is_ahead why ] ] ]

  concludes_is : lease_step m.call.purpose ≡ Some (w.work, w.step) → block_submitted ms ≡ l.own → concludes g heard ms ≡ (heeded && concludes_at step (stop_shown l given))
  concludes_is is own =
      ap (λ p. concluded_by p (is_at Phase2_read m) (stop_in g heard ms)) (at_phase m w.work step is)
      ∙ ap (λ last. concluded_by (is_phase_step step) last (stop_in g heard ms)) (at_step Phase2_read m w.work step is ∙ last_kind step)
      ∙ ap (λ stop. concluded_by (is_phase_step step) (is_last_phase step) stop) (stops_are is own)
      ∙ concluded heeded (is_phase_step step) (is_last_phase step) (stop_shown l given)
      ∙ ap (λ b. heeded && b) (same_conclusion (stop_shown l given))

  -- The open ballot, by the block that the call writes and whether it concludes.
  abbrev ballot_by : Option Block → Bool → Option ℕ
  ballot_by w over =
      elim w as (λ z. Option ℕ) [
        | Some b ↦ elim (is_at Phase2_write m) as (λ z. Option ℕ) [ true ↦ Some b.lver | false ↦ option_and_then (λ n. choose (b.lver == n) n) (open_ballot g ms) ]
        | None ↦ elim over as (λ z. Option ℕ) [ true ↦ None | false ↦ open_ballot g ms ]
      ]

  -- The own block before the call, by what it writes.
  abbrev own_by : Option Block → Option Block
  own_by w = elim w as (λ z. Option Block) [ Some b ↦ Some b | None ↦ block_submitted ms ]

  ballot_is : lease_step m.call.purpose ≡ Some (w.work, w.step) → (is_some (bytes_given a) ≡ true → record_of m.call.op ≡ None) → block_submitted (none ∷ ms) ≡ l.own → open_ballot g (none ∷ ms) ≡ l.ballot
      → open_ballot g (heard ∷ ms) ≡ cond (heeded && concludes_at step (stop_shown l given)) None l.ballot
  ballot_is is fits = by (block_written m) refl where
    stays : (h c : Bool) → c ≡ false → (o : Option ℕ) → o ≡ cond (h && c) None o
    stays true true none_is o = absurd (true_is_false none_is)
    stays true false none_is o = refl
    stays false c none_is o = refl

    over : (c : Bool) (o p : Option ℕ) → o ≡ p → elim c as (λ z. Option ℕ) [ true ↦ None | false ↦ o ] ≡ cond c None p
    over true o p same = refl
    over false o p same = same

    by : (o : Option Block) → block_written m ≡ o → own_by o ≡ l.own → ballot_by o false ≡ l.ballot → ballot_by o (concludes g heard ms) ≡ cond (heeded && concludes_at step (stop_shown l given)) None l.ballot
    by (Some b) writes own same = same ∙ stays heeded (concludes_at step (stop_shown l given)) (ap (concludes_at step) (no_stop (no_bytes fits b writes))) l.ballot
    by None writes own same =
        ap (λ c. elim c as (λ z. Option ℕ) [ true ↦ None | false ↦ open_ballot g ms ]) (concludes_is is own)
        ∙ over (heeded && concludes_at step (stop_shown l given)) (open_ballot g ms) l.ballot same

  -- ---- what is owed

  -- Whether it shows that the free of n isn't needed.
  abbrev settled_by : ℕ → Bool → Option Leader → Option (List (Option Block)) → Bool
  settled_by n before d bs = elim before as (λ z. Bool) [ false ↦ false | true ↦ some_is (shows_settled self n d) bs ]

  settles_read : (n : ℕ) (before : Bool) (d : Option Leader) (bs : Option (List (Option Block))) → settled_by n before d bs ≡ (before && some_is (shows_settled self n d) bs)
  settles_read n true d bs = refl
  settles_read n false d bs = refl

  was_is : lease_step m.call.purpose ≡ Some (w.work, w.step) → (n : ℕ) → was_settled g self n heard ms ≡ settled_by n (is_free_step step) leader given
  was_is is n =
      ap (λ b. settled_by n b (leader_given g heard ms) (blocks_given g heard ms)) (at_step Read_before_free m w.work step is ∙ free_kind step)
      ∙ ap (λ d. settled_by n (is_free_step step) d (blocks_given g heard ms)) (leader_is is) ∙ ap (settled_by n (is_free_step step) leader) (blocks_are is)

  -- Whether the call settles the free of n, by the leader that it writes and its answer.
  abbrev settles_by : ℕ → Option Leader → Bool → Answer → Bool
  settles_by n w before x =
      some_is (λ d. d.lver == n && not d.held) w && is_ok_answer x || settled_by n before (leader_shown g l.pair step x) (blocks_shown g l.pair step x)

  settles_is : lease_step m.call.purpose ≡ Some (w.work, w.step) → (is_some (bytes_given a) ≡ true → record_of m.call.op ≡ None) → (frees : Option ℕ) → free_written m ≡ frees → (n : ℕ)
      → settles_free g self n heard ms ≡ settles_at self step frees leader given n a
  settles_is is fits frees writes n =
      ap (λ b. some_is (λ d. d.lver == n && not d.held) (leader_written m) && is_ok_answer a || b) (was_is is n) ∙ by a fits (leader_written m) refl where
        nothing : (b : Bool) → (false || elim b as (λ z. Bool) [ false ↦ false | true ↦ false ]) ≡ false
        nothing true = refl
        nothing false = refl

        no_more : (b c : Bool) → ((b && true) || elim c as (λ z. Bool) [ false ↦ false | true ↦ false ]) ≡ b
        no_more true c = refl
        no_more false true = refl
        no_more false false = refl

        never : (b c : Bool) → ((b && false) || elim c as (λ z. Bool) [ false ↦ false | true ↦ false ]) ≡ false
        never true true = refl
        never true false = refl
        never false true = refl
        never false false = refl

        free_one : (d : Leader) (held : Bool) → (d.lver == n && not held) ≡ some_is (λ f. f == n) (choose (not held) d.lver)
        free_one d true = and_false (d.lver == n) where
          and_false : (b : Bool) → (b && false) ≡ false
          and_false true = refl
          and_false false = refl
        free_one d false = and_true (d.lver == n) where
          and_true : (b : Bool) → (b && true) ≡ b
          and_true true = refl
          and_true false = refl

        free_is : (w : Option Leader) → some_is (λ d. d.lver == n && not d.held) w ≡ some_is (λ f. f == n) (option_and_then (λ d. choose (not d.held) d.lver) w)
        free_is None = refl
        free_is (Some d) = free_one d d.held

        by : (x : Answer) → (is_some (bytes_given x) ≡ true → record_of m.call.op ≡ None) → (f : Option Leader) → leader_written m ≡ f
            → settles_by n f (is_free_step step) x ≡ settles_at self step frees (leader_shown g l.pair step x) (blocks_shown g l.pair step x) n x
        by (Read bytes) asked f is_f =
            ap (λ o. settles_by n o (is_free_step step) (Read bytes)) (sym is_f ∙ ap (λ (r : Option Rec). option_and_then leader_of_record r) (asked refl))
            ∙ settles_read n (is_free_step step) (leader_shown g l.pair step (Read bytes)) (blocks_shown g l.pair step (Read bytes))
        by Written asked f is_f =
            no_more (some_is (λ d. d.lver == n && not d.held) f) (is_free_step step) ∙ free_is f
            ∙ ap (λ o. some_is (λ f. f == n) (option_and_then (λ d. choose (not d.held) d.lver) o)) (sym is_f) ∙ ap (some_is (λ f. f == n)) writes
        by Failed asked f is_f = never (some_is (λ d. d.lver == n && not d.held) f) (is_free_step step)

  left_before : free_left g self (none ∷ ms) ≡ l.won → free_left g self ms ≡ l.won
  left_before = by (free_left g self ms) where
    unsettled : (n : ℕ) (b c : Bool) → Some n ≡ choose (not ((b && false) || elim c as (λ z. Bool) [ false ↦ false | true ↦ false ])) n
    unsettled n true true = refl
    unsettled n true false = refl
    unsettled n false true = refl
    unsettled n false false = refl

    by : (o : Option ℕ) → option_and_then (λ n. choose (not (settles_free g self n none ms)) n) o ≡ l.won → o ≡ l.won
    by None same = same
    by (Some n) same = unsettled n (is_free_write n none) (is_at Read_before_free none) ∙ same

  -- The instance that it wins, by the blocks that it shows and the own block.
  ended_by : (last : Bool) (bs : Option (List (Option Block))) (own : Option Block)
      → option_and_then (λ p. choose (same_owner p.1 self) p.0)
      (elim last as (λ z. Option (ℕ × Owner)) [ false ↦ None | true ↦ option_and_then (λ b. option_and_then (λ blocks. value_in_end b (stop_of b blocks)) bs) own ])
      ≡ cond (last && some_is (λ s. not (is_some s)) (option_and_then (λ b. option_map (stop_of b) bs) own)) (option_and_then (λ b. choose (same_owner (value_of b) self) b.lver) own) None
  ended_by false bs own = refl
  ended_by true None None = refl
  ended_by true (Some blocks) None = refl
  ended_by true None (Some b) = refl
  ended_by true (Some blocks) (Some b) = by (stop_of b blocks) where
    by : (s : Option Stop) → option_and_then (λ p. choose (same_owner p.1 self) p.0) (value_in_end b s) ≡ cond (not (is_some s)) (choose (same_owner (value_of b) self) b.lver) None
    by None = refl
    by (Some s) = refl

  won_is : lease_step m.call.purpose ≡ Some (w.work, w.step) → (is_some (bytes_given a) ≡ true → record_of m.call.op ≡ None) → block_submitted (none ∷ ms) ≡ l.own
      → won_by g self heard ms ≡ cond heeded (won_at self step l.own (stop_shown l given)) None
  won_is is fits own = by_heed heeded (by (block_written m) refl own) where
    ended : Option (List (Option Block)) → Option Block → Option ℕ
    ended bs o =
        option_and_then (λ p. choose (same_owner p.1 self) p.0)
        (elim (is_last_phase step) as (λ z. Option (ℕ × Owner)) [ false ↦ None | true ↦ option_and_then (λ b. option_and_then (λ blocks. value_in_end b (stop_of b blocks)) bs) o ])

    as_shown : option_and_then (λ p. choose (same_owner p.1 self) p.0) (ended_ballot g heard ms)
        ≡ option_and_then (λ p. choose (same_owner p.1 self) p.0)
        (elim (is_last_phase step) as (λ z. Option (ℕ × Owner)) [ false ↦ None | true ↦ option_and_then (λ b. option_and_then (λ blocks. value_in_end b (stop_of b blocks)) given) (block_submitted ms) ])
    as_shown =
        ap (λ last. option_and_then (λ p. choose (same_owner p.1 self) p.0)
        (elim last as (λ z. Option (ℕ × Owner)) [ false ↦ None | true ↦ option_and_then (λ b. option_and_then (λ blocks. value_in_end b (stop_of b blocks)) (blocks_given g heard ms)) (block_submitted ms) ])) (at_step Phase2_read m w.work step is ∙ last_kind step)
        ∙ ap (λ bs. option_and_then (λ p. choose (same_owner p.1 self) p.0)
        (elim (is_last_phase step) as (λ z. Option (ℕ × Owner)) [ false ↦ None | true ↦ option_and_then (λ b. option_and_then (λ blocks. value_in_end b (stop_of b blocks)) bs) (block_submitted ms) ])) (blocks_are is)

    no_blocks : bytes_given a ≡ None → given ≡ None
    no_blocks none_given = ap (λ o. option_map (blocks_of g) (option_and_then (read_heard g l.pair step) o)) none_given

    by : (o : Option Block) → block_written m ≡ o → own_by o ≡ l.own
        → option_and_then (λ p. choose (same_owner p.1 self) p.0) (ended_ballot g heard ms) ≡ won_at self step l.own (stop_shown l given)
    by None writes same =
        as_shown ∙ ended_by (is_last_phase step) given (block_submitted ms)
        ∙ ap (λ o. cond (is_last_phase step && some_is (λ s. not (is_some s)) (option_and_then (λ b. option_map (stop_of b) given) o)) (option_and_then (λ b. choose (same_owner (value_of b) self) b.lver) o) None) same
    by (Some b) writes same =
        as_shown ∙ ended_by (is_last_phase step) given (block_submitted ms)
        ∙ ap (λ bs. cond (is_last_phase step && some_is (λ s. not (is_some s)) (option_and_then (λ b. option_map (stop_of b) bs) (block_submitted ms))) (option_and_then (λ b. choose (same_owner (value_of b) self) b.lver) (block_submitted ms)) None) (no_blocks (no_bytes fits b writes))
        ∙ neither (is_last_phase step) (block_submitted ms)
        ∙ sym (ap (λ s. won_at self step l.own s) (no_stop (no_bytes fits b writes)) ∙ never (is_last_phase step)) where
          neither : (last : Bool) (o : Option Block)
              → cond (last && some_is (λ s. not (is_some s)) (option_and_then (λ b. option_map (stop_of b) None) o)) (option_and_then (λ b. choose (same_owner (value_of b) self) b.lver) o) None ≡ None
          neither true None = refl
          neither true (Some b) = refl
          neither false o = refl

          never : (last : Bool) → cond (last && false) (option_and_then (λ b. choose (same_owner (value_of b) self) b.lver) l.own) None ≡ None
          never true = refl
          never false = refl

    by_heed : (h : Bool) → option_and_then (λ p. choose (same_owner p.1 self) p.0) (ended_ballot g heard ms) ≡ won_at self step l.own (stop_shown l given)
        → elim h as (λ z. Option ℕ) [ false ↦ None | true ↦ option_and_then (λ p. choose (same_owner p.1 self) p.0) (ended_ballot g heard ms) ]
        ≡ cond h (won_at self step l.own (stop_shown l given)) None
    by_heed true same = same
    by_heed false same = refl

  left_is : lease_step m.call.purpose ≡ Some (w.work, w.step) → (is_some (bytes_given a) ≡ true → record_of m.call.op ≡ None) → (frees : Option ℕ) → free_written m ≡ frees
      → block_submitted (none ∷ ms) ≡ l.own → free_left g self (none ∷ ms) ≡ l.won
      → free_left g self (heard ∷ ms) ≡ won_hearing (cond heeded (won_at self step l.own (stop_shown l given)) None) (λ n. settles_at self step frees leader given n a) l.won
  left_is is fits frees writes own left =
      ap (λ w. elim w as (λ z. Option ℕ) [ Some n ↦ Some n | None ↦ option_and_then (λ n. choose (not (settles_free g self n heard ms)) n) (free_left g self ms) ]) (won_is is fits own)
      ∙ by (cond heeded (won_at self step l.own (stop_shown l given)) None) where
        settled : (o : Option ℕ) → option_and_then (λ n. choose (not (settles_free g self n heard ms)) n) o ≡ option_and_then (λ n. choose (not (settles_at self step frees leader given n a)) n) o
        settled None = refl
        settled (Some n) = ap (λ b. choose (not b) n) (settles_is is fits frees writes n)

        by : (w : Option ℕ) → elim w as (λ z. Option ℕ) [ Some n ↦ Some n | None ↦ option_and_then (λ n. choose (not (settles_free g self n heard ms)) n) (free_left g self ms) ]
            ≡ won_hearing w (λ n. settles_at self step frees leader given n a) l.won
        by (Some n) = refl
        by None = settled (free_left g self ms) ∙ ap (option_and_then (λ n. choose (not (settles_at self step frees leader given n a)) n)) (left_before left)

  -- ---- the greatest number of the own block's instance

  -- The blocks that were read last, by what this call gave.
  abbrev last_by : Option (List (Option Block)) → List (Option Block)
  last_by bs = elim bs as (λ z. List (Option Block)) [ Some blocks ↦ blocks | None ↦ last_blocks g ms ]

  top_is : lease_step m.call.purpose ≡ Some (w.work, w.step) → ((t : TopNumber) → l.top ≡ Some t → top_mbal t.instance (last_blocks g (none ∷ ms)) ≡ t.mbal)
      → (t : TopNumber) → top_hearing l given ≡ Some t → top_mbal t.instance (last_blocks g (heard ∷ ms)) ≡ t.mbal
  top_is is before t now_top = ap (λ bs. top_mbal t.instance (last_by bs)) (blocks_are is) ∙ by given now_top where
    by : (bs : Option (List (Option Block))) → top_hearing l bs ≡ Some t → top_mbal t.instance (last_by bs) ≡ t.mbal
    by None same = before t same
    by (Some blocks) same =
        let found = mapped_value (λ (b : Block). record { instance = b.lver; mbal = top_mbal b.lver blocks }) l.own t same in
        subst (λ (u : TopNumber). top_mbal u.instance blocks ≡ u.mbal) found.2 refl

  opened_is : block_submitted (none ∷ ms) ≡ l.own → open_ballot g (none ∷ ms) ≡ l.ballot → ((n : ℕ) → l.ballot ≡ Some n → (t : TopNumber) × (l.top ≡ Some t) × (t.instance ≡ n))
      → (n : ℕ) → cond (heeded && concludes_at step (stop_shown l given)) None l.ballot ≡ Some n
      → (t : TopNumber) × (top_hearing l given ≡ Some t) × (t.instance ≡ n)
  opened_is own ballot before n now_open = by given (still (heeded && concludes_at step (stop_shown l given)) now_open) where
    still : (over : Bool) → cond over None l.ballot ≡ Some n → l.ballot ≡ Some n
    still true same = absurd (none_some n same)
    still false same = same

    by : (bs : Option (List (Option Block))) → l.ballot ≡ Some n → (t : TopNumber) × (top_hearing l bs ≡ Some t) × (t.instance ≡ n)
    by None is_open = before n is_open
    by (Some blocks) is_open =
        let its = open_is_own g (none ∷ ms) n (ballot ∙ is_open) in (
          record { instance = its.block.lver; mbal = top_mbal its.block.lver blocks },
          ap (option_map (λ (b : Block). record { instance = b.lver; mbal = top_mbal b.lver blocks })) (sym own ∙ its.own_is),
          (let e : (its.block.lver == n) ≡ true = its.instance in same_number its.block.lver n e),
        )

  -- ---- the whole

  all_heard : (c : OpenCall) → m.call.purpose ≡ c.purpose → (is_some (bytes_given a) ≡ true → record_of m.call.op ≡ None) → IsKeptCall none w → AllByRecursion (λ d. IsTrue (is_some d.answer)) ms
      → LeaseStands g lockspace self l (none ∷ ms) → LeaseStands g lockspace self (lease_hearing g lockspace self heeded c a w l) (heard ∷ ms)
  all_heard c purpose fits its answered s =
      let is = its.2 in
      let pairs : PairStands g self.id (pair_hearing g self.id w.step w.turn a l.pair) (heard ∷ ms) =
      pair_hears g self.id l.pair m ms w.work w.step w.turn (record { at = at; reading = now; answer = a; heeded = heeded }) is its.5 fits (record { turn = s.turn; again = s.again; kept = s.kept; second = s.second })
      in
      record {
        own = s.own;
        name = name_is is s.name ∙ ap (λ (p : Purpose). unwrap_or (verified_at g lockspace p leader) l.name) purpose;
        freed = s.freed;
        ballot = ballot_is is fits s.own s.ballot;
        shown = shown_is w.clears its.4 s.shown;
        won = left_is is fits w.frees its.3 s.own s.won;
        waiting = (refl, answered);
        top = top_is is s.top;
        opened = opened_is s.own s.ballot s.opened;
        turn = pairs.turn;
        again = pairs.again;
        kept = pairs.kept;
        second = pairs.second;
      }

pub lease_hears : (g : Layout) (lockspace : List ℕ) (self : Owner) (l : LeaseState) (m : Submitted) (ms : List Submitted) (w : LeaseCall) (at now : ℕ) (a : Answer) (heeded : Bool) (c : OpenCall)
    → m.call.purpose ≡ c.purpose → (is_some (bytes_given a) ≡ true → record_of m.call.op ≡ None) → IsKeptCall (record m { answer = None }) w → AllByRecursion (λ d. IsTrue (is_some d.answer)) ms
    → LeaseStands g lockspace self l (record m { answer = None } ∷ ms)
    → LeaseStands g lockspace self (lease_hearing g lockspace self heeded c a w l) (record m { answer = Some (record { at = at; reading = now; answer = a; heeded = heeded }) } ∷ ms)
lease_hears g lockspace self l m ms w at now a heeded c purpose fits its answered s =
    all_heard g lockspace self l m ms w at now a heeded (second_finds g l.pair (record m { answer = None }) ms s.again s.kept s.second) c purpose fits its answered s
