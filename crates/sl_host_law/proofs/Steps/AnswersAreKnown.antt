-- After an answer on a lease what is kept decides as the calls do: the answered call is the lease's newest, so the blocks that it shows
-- are those that were read last.
use Rattle.sl_host_law.proofs.Answers.AnswersFollow.{place, stands}
use Rattle.sl_host_law.proofs.Answers.DecisionsAreCarried.{layout_is}
use Rattle.sl_host_law.proofs.Answers.LeasesSetFree.{call_told, leases_set_free, told_spot}
use Rattle.sl_host_law.specs.Answers.AnswersFollow.{IsAnswerTo}
use Rattle.sl_host_law.specs.Answers.LeaseAnswers.{area_of}
use Rattle.sl_area.specs.AreaSizes.{Layout}
use Rattle.sl_area.specs.Pairs.{blocks_of, needs_again, read_once}
use Rattle.sl_area.specs.TornLeader.{leader_read}
use Rattle.sl_area.specs.AreaLayout.{blocks_part}
use Rattle.sl_host_state.proofs.Pairs.{again_is, blocks_are_shown, second_finds}
use Rattle.sl_host_law.proofs.Calls.MemberCalls.SpotsMore.{on_own, one_spot}
use Rattle.sl_due.specs.Steps.{Step, seen, with_input}
use Rattle.sl_host_law.proofs.SharedFacts.PlainLists.{at_some, each_of}
use Rattle.sl_host_state.specs.HeardInputs.{blocks_shown, heard_answer, hearing, is_block_step, is_heeded_by, lease_told, member_hearing}
use Rattle.sl_host_state.specs.KeptState.{Config, HostState, LeaseState, MemberState, PairState}
use Rattle.sl_host_state.specs.MadeEffects.{is_lease_on}
use Rattle.sl_host_state.specs.NewHost.{IsOfProgram}
use Rattle.sl_host_state.specs.HostStands.{IsWaiting, LeaseStands, Stands, kept_call}
use Rattle.sl_host_state.specs.declared.kept_parts.LeaseCall.{LeaseCall}
use Rattle.sl_host_state.specs.declared.kept_parts.OpenCall.{OpenCall}
use Rattle.sl_host_law.proofs.Steps.LeasesAreKnown.{kept_tops, known_is, lease_is, read_tops, settles_alike, stands as lease_stands, within_alike}
use Rattle.sl_host_law.specs.Steps.Leases.{answered_next, blocks_at, kept_blocks, known_by}
use Rattle.sl_trace.specs.LeaseDecisions.{LeasePlace, after_bytes, after_read, asked_again, first_step, heard, lease_next, part_read, settle_next, step_of_read, within_turn}
use Rattle.sl_trace.specs.Leases.{LeaseKnown, blocks_given, given_with, is_lease_call, is_on, is_second, last_blocks, lease_calls, lease_step, spot_of_call}
use Rattle.sl_trace.specs.declared.lease.Aim.TheVariants.{Acquires, Converts, Settles}
use Rattle.sl_trace.specs.declared.lease.Aim.{Aim}
use Rattle.sl_trace.specs.declared.lease.LeaseNext.TheVariants.{Nothing, ReadFor}
use Rattle.sl_trace.specs.declared.lease.LeaseNext.{LeaseNext}
use Rattle.sl_words.proofs.Lists.{contains_cases, find_inside, in_map, kept}
use Rattle.sl_host_law.specs.Questions.Answers.{next_in, place_in, spot_in}
use Rattle.sl_host_law.specs.Questions.Members.{IsMemberAt, me_in}
use Rattle.sl_host_law.proofs.Replies.Answers.AnswerMarksOneCall.{hear, hear_by, picked, same_call, told}
use Rattle.sl_sector.specs.declared.sector.Block.{Block}
use Rattle.sl_sector.specs.declared.sector.PairBlock.{PairBlock}
use Rattle.sl_trace.specs.Sessions.{calls_of, me}
use Rattle.sl_trace.specs.declared.session.Session.{Session}
use Rattle.sl_trace.specs.Traces.{Submitted, answer_of, bytes_given, gave, submitted}
use Rattle.sl_trace.specs.declared.effects.Call.{Call}
use Rattle.sl_trace.specs.declared.effects.Effects.{Effects}
use Rattle.sl_trace.specs.declared.effects.LeaseRead.TheVariants.{OfArea, OfBlock, OfFree, OfPhase1, OfPhase2}
use Rattle.sl_trace.specs.declared.effects.LeaseRead.{LeaseRead}
use Rattle.sl_trace.specs.declared.effects.LeaseStep.TheVariants.{ClearMode, FreeLeader, Phase1Read, Phase2Read, ReadAgain, ReadArea, ReadBeforeBlock, ReadBeforeFree, TakeLeader}
use Rattle.sl_trace.specs.declared.effects.LeaseStep.{LeaseStep}
use Rattle.sl_trace.specs.declared.effects.Mode.TheVariants.{Exclusive, Shared}
use Rattle.sl_trace.specs.declared.effects.Purpose.TheVariants.{Lease}
use Rattle.sl_trace.specs.declared.effects.Spot.{Spot}
use Rattle.sl_trace.specs.declared.effects.Work.{Work}
use Rattle.sl_trace.specs.declared.input.Answer.TheVariants.{Failed, Read, Written}
use Rattle.sl_trace.specs.declared.input.Answer.{Answer}
use Rattle.sl_trace.specs.declared.input.Input.TheVariants.{Answer as Told, Wake}
use Rattle.sl_trace.specs.declared.input.Input.{Input}
use Rattle.sl_words.proofs.CaseLaws.{false_is_true, none_some, true_is_false}
use Rattle.sl_words.specs.Words.{choose}
use Rattle.std.proofs.Common.{ap, inl, inr, refl, subst, sym, ◌∙◌}
use Rattle.std.specs.Option.{option_or}
use Rattle.std.specs.Prelude.{Bool, Contains, IsTrue, List, None, Option, Some, false, filter, find, is_some, map, not, option_map, true, unwrap_or, [], ℕ, ◌&&◌, ◌<◌, ◌==◌, ◌∷◌, ◌≡◌, ◌⊎◌}

-- ---- the newest call

-- Of the calls of a lease the open one is the newest.
newest_open : (o : Option LeaseCall) (ds : List Submitted) (d : Submitted) → IsWaiting o ds → Contains ds d → d.answer ≡ None → (rest : List Submitted) × (ds ≡ d ∷ rest)
newest_open None ds d waits there open_d = absurd (true_is_false (sym (each_of (λ (y : Submitted). IsTrue (is_some y.answer)) ds d waits there) ∙ ap is_some open_d))
newest_open (Some w) [] d waits there open_d = absurd waits
newest_open (Some w) (f ∷ ds) d waits there open_d = by (contains_cases f ds d there) where
  by : (f ≡ d) ⊎ Contains ds d → (rest : List Submitted) × (f ∷ ds ≡ d ∷ rest)
  by (inl is) = (ds, ap (λ z. z ∷ ds) is)
  by (inr later) = absurd (true_is_false (sym (each_of (λ (y : Submitted). IsTrue (is_some y.answer)) ds d waits.1 later) ∙ ap is_some open_d))

-- The blocks that were read last, where the newest call is this one.
last_is : (g : Layout) (ms : List Submitted) (d : Submitted) (rest : List Submitted) (o : Option (List (Option Block))) → ms ≡ d ∷ rest → blocks_given g d rest ≡ o → last_blocks g ms ≡ unwrap_or o (last_blocks g rest)
last_is g ms d rest o is gives = ap (last_blocks g) is ∙ ap (λ z. elim z as (λ y. List (Option Block)) [ Some bs ↦ bs | None ↦ last_blocks g rest ]) gives ∙ by o where
  by : (z : Option (List (Option Block))) → elim z as (λ y. List (Option Block)) [ Some bs ↦ bs | None ↦ last_blocks g rest ] ≡ unwrap_or z (last_blocks g rest)
  by None = refl
  by (Some bs) = refl

-- ---- the calls with the answer

-- The step before its input, where it has made no call.
abbrev bare : Step → Step
bare x = let fx : Effects = x.effects in record x { input = Wake; effects = record fx { calls = [] } }

is_bare : (h : HostState) (x : Step) → Stands Wake h x → h.made.calls ≡ [] → x ≡ bare x
is_bare h x s none =
    ap (λ i. record x { input = i }) s.input
    ∙ ap (λ cs. let fx : Effects = x.effects in record x { input = Wake; effects = record fx { calls = cs } }) (ap (λ (fx : Effects). fx.calls) s.made ∙ none)

calls_heard : (n : ℕ) (a : Answer) (x : Step) (s : Session) (at : Spot) → x ≡ bare x
    → lease_calls x.setting (seen (with_input (Told n a) x)) s at ≡ map (hear x.past x.reading x.effects n a) (lease_calls x.setting (seen x) s at)
calls_heard n a x s at is =
    subst (λ (z : Step). lease_calls z.setting (seen (with_input (Told n a) z)) s at ≡ map (hear z.past z.reading z.effects n a) (lease_calls z.setting (seen z) s at)) (sym is) (of_bare x) where
      of_bare : (y : Step) → lease_calls y.setting (seen (with_input (Told n a) (bare y))) s at ≡ map (hear y.past y.reading y.effects n a) (lease_calls y.setting (seen (bare y)) s at)
      of_bare y =
          ap (filter (λ d. is_lease_call d && is_on y.setting.layout at d.call)) (picked y.past y.reading y.effects n a (λ c. c.session == s.number) (submitted y.past))
          ∙ picked y.past y.reading y.effects n a (λ c. is_some (lease_step c.purpose) && is_on y.setting.layout at c) (calls_of (seen (bare y)) s)

-- The open call gives what its answer gives.
gives_heard : (n : ℕ) (a : Answer) (x : Step) (d : Submitted) → (d.call.number == n) ≡ true → d.answer ≡ None → gave (hear x.past x.reading x.effects n a d) ≡ bytes_given a
gives_heard n a x d its open_d =
    ap (λ b. gave (hear_by x.past x.reading x.effects n a d b)) its
    ∙ ap (λ o. gave (record d { answer = option_or o (Some (answer_of x.past (told x.reading x.effects n a) a d.call)) })) open_d

-- ---- what comes next

-- A step that reads no blocks decides nothing by a read.
reads_nothing : (p : LeasePlace) (k : LeaseKnown) (aim : Aim) (bytes : List ℕ) (step : LeaseStep) → is_block_step step ≡ false → after_bytes p k aim bytes step ≡ Nothing
unfolding after_bytes
reads_nothing p k aim bytes step = by step where
  never : (b : Bool) (next : LeaseNext) → elim (elim b as (λ z. Option LeaseRead) [ false ↦ None | true ↦ None ]) as (λ z. LeaseNext) [ Some read ↦ ReadFor (ReadAgain read) | None ↦ next ] ≡ next
  never true next = refl
  never false next = refl

  by : (s : LeaseStep) → is_block_step s ≡ false
      → elim (asked_again p.layout bytes s) as (λ z. LeaseNext) [
        | Some read ↦ ReadFor (ReadAgain read)
        | None ↦ after_read p k aim (leader_read p.layout bytes (heard p.layout k bytes s)) (blocks_of p.layout (heard p.layout k bytes s)) (first_step s)
      ]
      ≡ Nothing
  by (ReadArea name) is = absurd (true_is_false is)
  by ReadBeforeFree is = absurd (true_is_false is)
  by ReadBeforeBlock is = absurd (true_is_false is)
  by (ReadAgain read) is = absurd (true_is_false is)
  by Phase1Read is = absurd (true_is_false is)
  by Phase2Read is = absurd (true_is_false is)
  by s is = never (needs_again p.layout (part_read p.layout bytes s)) Nothing

-- Where a read is to be made once more nothing else is asked.
again_decides : (p : LeasePlace) (k : LeaseKnown) (aim : Aim) (bytes : List ℕ) (step : LeaseStep) (read : LeaseRead) → asked_again p.layout bytes step ≡ Some read
    → after_bytes p k aim bytes step ≡ ReadFor (ReadAgain read)
unfolding after_bytes
again_decides p k aim bytes step read is =
    ap (λ o. elim o as (λ z. LeaseNext) [
      | Some r ↦ ReadFor (ReadAgain r)
      | None ↦ after_read p k aim (leader_read p.layout bytes (heard p.layout k bytes step)) (blocks_of p.layout (heard p.layout k bytes step)) (first_step step)
    ]) is

-- A read that shows no blocks is made once more, or reads none.
none_shown : (g : Layout) (p : PairState) (bytes : List ℕ) (step : LeaseStep) → (is_second step ≡ true → IsTrue (is_some p.first)) → blocks_shown g p step (Read bytes) ≡ None
    → ((read : LeaseRead) × (asked_again g bytes step ≡ Some read)) ⊎ (is_block_step step ≡ false)
none_shown g p bytes step = by step where
  first : (b : Bool) (r : LeaseRead) (bs : List ℕ) → option_map (blocks_of g) (choose (not b) (read_once bs)) ≡ None
      → (read : LeaseRead) × (elim b as (λ z. Option LeaseRead) [ false ↦ None | true ↦ Some r ] ≡ Some read)
  first true r bs none = (r, refl)
  first false r bs none = absurd (none_some (blocks_of g (read_once bs)) (sym none))

  second : (o : Option (List (Option PairBlock))) (bs : List ℕ) → IsTrue (is_some o) → option_map (blocks_of g) (given_with g true o (Some bs)) ≡ None → ⊥
  second None bs some none = false_is_true some
  second (Some pairs) bs some none = none_some (blocks_of g (record { kept = pairs; last = bs })) (sym none)

  by : (s : LeaseStep) → (is_second s ≡ true → IsTrue (is_some p.first)) → blocks_shown g p s (Read bytes) ≡ None → ((read : LeaseRead) × (asked_again g bytes s ≡ Some read)) ⊎ (is_block_step s ≡ false)
  by (ReadArea name) kept none = inl (first (needs_again g (blocks_part g bytes)) (OfArea name) (blocks_part g bytes) none)
  by ReadBeforeFree kept none = inl (first (needs_again g (blocks_part g bytes)) OfFree (blocks_part g bytes) none)
  by ReadBeforeBlock kept none = inl (first (needs_again g bytes) OfBlock bytes none)
  by Phase1Read kept none = inl (first (needs_again g bytes) OfPhase1 bytes none)
  by Phase2Read kept none = inl (first (needs_again g bytes) OfPhase2 bytes none)
  by (ReadAgain read) kept none = absurd (second p.first (part_read g bytes (step_of_read read)) (kept refl) none)
  by s kept none = inr refl

-- With these blocks in place of those that were read last: only a settling asks for them, and of all of them the greatest number is enough.
module _ (i : Input) (h : HostState) (x : Step) (k : ℕ) (m : MemberState) (at : IsMemberAt i h x k m) (area : Spot) (l : LeaseState) (its : find (is_lease_on area) m.leases ≡ Some l) where
  abbrev last : List (Option Block)
  last = last_blocks h.config.layout (lease_calls x.setting (seen x) m.who area)

  -- After a read: its own blocks, where it shows some.
  read_alike : (aim : Aim) (step : LeaseStep) (bytes : List ℕ) (older : List (Option Block)) → (is_second step ≡ true → IsTrue (is_some l.pair.first))
      → last_blocks h.config.layout (lease_calls x.setting (seen x) m.who area) ≡ unwrap_or (blocks_shown h.config.layout l.pair step (Read bytes)) older
      → after_bytes (place_in h m) (known_by h m area l (blocks_at h.config.layout l step (Read bytes))) aim bytes step
      ≡ after_bytes (place_in h m) (known_by h m area l (last_blocks h.config.layout (lease_calls x.setting (seen x) m.who area))) aim bytes step
  read_alike aim step bytes older kept same = by (blocks_shown h.config.layout l.pair step (Read bytes)) refl same where
    decides : List (Option Block) → LeaseNext
    decides read = after_bytes (place_in h m) (known_by h m area l read) aim bytes step

    by : (o : Option (List (Option Block))) → blocks_shown h.config.layout l.pair step (Read bytes) ≡ o → last ≡ unwrap_or o older → decides (unwrap_or o (kept_blocks l)) ≡ decides last
    by (Some bs) shown is = ap (λ z. decides z) (sym is)
    by None shown is =
        elim (none_shown h.config.layout l.pair bytes step kept shown) [
          | inl again ↦ again_decides (place_in h m) (known_by h m area l (kept_blocks l)) aim bytes step again.0 again.1
              ∙ sym (again_decides (place_in h m) (known_by h m area l last) aim bytes step again.0 again.1)
          | inr none ↦ reads_nothing (place_in h m) (known_by h m area l (kept_blocks l)) aim bytes step none ∙ sym (reads_nothing (place_in h m) (known_by h m area l last) aim bytes step none)
        ]

  next_alike : IsOfProgram h.config.layout → (aim : Aim) (call n : ℕ) (step : LeaseStep) (a : Answer) (older : List (Option Block)) → (is_second step ≡ true → IsTrue (is_some l.pair.first))
      → last_blocks h.config.layout (lease_calls x.setting (seen x) m.who area) ≡ unwrap_or (blocks_shown h.config.layout l.pair step a) older
      → lease_next (place_in h m) (known_by h m area l (blocks_at h.config.layout l step a)) aim call n step a
      ≡ lease_next (place_in h m) (known_by h m area l (last_blocks h.config.layout (lease_calls x.setting (seen x) m.who area))) aim call n step a
  unfolding lease_next
  next_alike program aim call n step Failed older kept same = by aim where
    by : (z : Aim) → lease_next (place_in h m) (known_by h m area l (kept_blocks l)) z call n step Failed ≡ lease_next (place_in h m) (known_by h m area l last) z call n step Failed
    by z = refl
  next_alike program aim call n step Written older kept same = by step aim where
    settles : settle_next (place_in h m) (known_by h m area l (kept_blocks l)) ≡ settle_next (place_in h m) (known_by h m area l last)
    settles = settles_alike i h x k m at area l its (kept_blocks l) last program (kept_tops i h x k m at area l its) (read_tops i h x k m at area l its)

    by : (s : LeaseStep) (z : Aim) → lease_next (place_in h m) (known_by h m area l (kept_blocks l)) z call n s Written ≡ lease_next (place_in h m) (known_by h m area l last) z call n s Written
    by FreeLeader Settles = settles
    by ClearMode Settles = settles
    by TakeLeader (Acquires Exclusive) = refl
    by TakeLeader (Acquires Shared) = refl
    by TakeLeader (Converts Exclusive) = refl
    by TakeLeader (Converts Shared) = refl
    by s z = refl
  next_alike program aim call n step (Read bytes) older kept same = read_alike aim step bytes older kept same

-- ---- an answer

module _ (number : ℕ) (c : OpenCall) (a : Answer) (h : HostState) (x : Step) (k : ℕ) (m : MemberState) (to : IsAnswerTo number c a h x k m) (not_refused : m.refused ≡ false) (work : Work) (step : LeaseStep)
    (is : c.purpose ≡ Lease work step) (room : 0 < h.config.layout.area) where
  abbrev area : Spot
  area = area_of h c

  here : 0 < x.setting.layout.area
  here = subst (λ (g : Layout). 0 < g.area) (layout_is Wake h x to.stands) room

  -- The open call, as the trace has it.
  abbrev call : Submitted
  call = (call_told number c a h x k m to).0

  call_open : call.answer ≡ None
  call_open = (call_told number c a h x k m to).2

  call_kept : kept_call call ≡ c
  call_kept = (call_told number c a h x k m to).3

  call_step : lease_step call.call.purpose ≡ Some (work, step)
  call_step = ap (λ (z : OpenCall). lease_step z.purpose) call_kept ∙ ap lease_step is

  call_spot : spot_of_call x.setting.layout call ≡ area_of h c
  call_spot = ap (λ z. spot_in x.setting.layout z) call_kept ∙ ap (λ g. spot_in g c) (sym (layout_is Wake h x to.stands))

  call_numbered : (call.call.number == number) ≡ true
  call_numbered = ap (λ (z : OpenCall). z.number == number) call_kept ∙ (find_inside (λ (d : OpenCall). d.number == number) h.unanswered c to.is_open).1

  on_area : Contains (lease_calls x.setting (seen x) m.who (area_of h c)) call
  on_area =
      kept (λ (z : Submitted). is_lease_call z && is_on x.setting.layout (area_of h c) z.call) (calls_of (seen x) m.who) call
      (both (is_lease_call call) (is_on x.setting.layout (area_of h c) call.call) (ap (λ o. is_some o) call_step)
      (subst (λ p. is_on x.setting.layout p call.call ≡ true) call_spot (on_own x.setting.layout call here))) (call_told number c a h x k m to).1
    where
      both : (p q : Bool) → p ≡ true → q ≡ true → (p && q) ≡ true
      both true q first also = also
      both false q first also = absurd (false_is_true first)

  -- Its lease once it has heard, and as it was.
  abbrev lease_now : Type 0
  lease_now = (l : LeaseState) × (find (is_lease_on (area_of h c)) (member_hearing h c a m).leases ≡ Some l) × (l.waiting ≡ None)

  lease : lease_now
  lease = leases_set_free.lease number c a h x k m work step to is room

  stood_lease : (l : LeaseState) × LeaseStands x.setting.layout m.who.lockspace (me (seen x) m.who) l (lease_calls x.setting (seen x) m.who (area_of h c))
  stood_lease =
      let inside = find_inside (is_lease_on (area_of h c)) (member_hearing h c a m).leases lease.0 lease.1 in
      let old = in_map (lease_told h m (is_heeded_by h c) c a) m.leases lease.0 inside.0 in
      let place_l = at_some m.leases old.0 old.1 in
      let spot : old.0.spot ≡ area_of h c =
      sym (told_spot number c a h x k m to old.0) ∙ ap (λ (z : LeaseState). z.spot) old.2 ∙ sym (one_spot (area_of h c) lease.0.spot inside.1)
      in
      let stood : LeaseStands x.setting.layout m.who.lockspace (me (seen x) m.who) old.0 (lease_calls x.setting (seen x) m.who (area_of h c)) =
      subst (λ p. LeaseStands x.setting.layout m.who.lockspace (me (seen x) m.who) old.0 (lease_calls x.setting (seen x) m.who p)) spot
      ((to.stands.keeps.members k m to.there).leases place_l.0 old.0 place_l.1)
      in
      (old.0, stood)

  newest : (rest : List Submitted) × (lease_calls x.setting (seen x) m.who (area_of h c) ≡ call ∷ rest)
  newest = newest_open stood_lease.0.waiting (lease_calls x.setting (seen x) m.who (area_of h c)) call stood_lease.1.waiting on_area call_open

  -- The calls once it is heard.
  abbrev hears : Submitted → Submitted
  hears = hear x.past x.reading x.effects number a

  heard_step : lease_step (hears call).call.purpose ≡ Some (work, step)
  heard_step = ap (λ (z : Call). lease_step z.purpose) (same_call x.past x.reading x.effects number a call) ∙ call_step

  heard_config : (heard_answer number a h).config ≡ h.config
  heard_config = ap (λ o. (elim o as (λ z. HostState) [ None ↦ h | Some d ↦ hearing d a h ]).config) to.is_open

  areas : area_of h c ≡ area_of (heard_answer number a h) c
  areas = ap (λ (z : Config). spot_in z.layout c) (sym heard_config)

  calls_are : lease_calls x.setting (seen (with_input (Told number a) x)) m.who (area_of (heard_answer number a h) c) ≡ hears call ∷ map hears newest.0
  calls_are =
      subst (λ p. lease_calls x.setting (seen (with_input (Told number a) x)) m.who p ≡ hears call ∷ map hears newest.0) areas
      (calls_heard number a x m.who (area_of h c) (is_bare h x to.stands to.at.calls) ∙ ap (map hears) newest.1)

  now : IsMemberAt (Told number a) (heard_answer number a h) (with_input (Told number a) x) (place number c a h x k m to not_refused).0 (member_hearing h c a m)
  now = record { stands = stands number c a h x k m to not_refused; there = (place number c a h x k m to not_refused).1 }

  found : find (is_lease_on (area_of (heard_answer number a h) c)) (member_hearing h c a m).leases ≡ Some lease.0
  found = subst (λ p. find (is_lease_on p) (member_hearing h c a m).leases ≡ Some lease.0) areas lease.1

  stands_now : LeaseStands (heard_answer number a h).config.layout m.who.lockspace (me_in (member_hearing h c a m)) lease.0 (hears call ∷ map hears newest.0)
  stands_now =
      subst (LeaseStands (heard_answer number a h).config.layout m.who.lockspace (me_in (member_hearing h c a m)) lease.0) calls_are
      (lease_stands (Told number a) (heard_answer number a h) (with_input (Told number a) x) (place number c a h x k m to not_refused).0 (member_hearing h c a m) now (area_of (heard_answer number a h) c) lease.0 found)

  second_kept : is_second step ≡ true → IsTrue (is_some lease.0.pair.first)
  second_kept two = stands_now.second (sym stands_now.again ∙ again_is (hears call) work step heard_step ∙ two)

  last_shown : last_blocks (heard_answer number a h).config.layout (lease_calls x.setting (seen (with_input (Told number a) x)) m.who (area_of (heard_answer number a h) c))
      ≡ unwrap_or (blocks_shown (heard_answer number a h).config.layout lease.0.pair step a) (last_blocks (heard_answer number a h).config.layout (map hears newest.0))
  last_shown =
      let g : Layout = (heard_answer number a h).config.layout in
      last_is g (lease_calls x.setting (seen (with_input (Told number a) x)) m.who (area_of (heard_answer number a h) c)) (hears call) (map hears newest.0) (blocks_shown g lease.0.pair step a) calls_are
      (blocks_are_shown g lease.0.pair (hears call) (map hears newest.0) work step a heard_step (gives_heard number a x call call_numbered call_open)
      (second_finds g lease.0.pair (hears call) (map hears newest.0) stands_now.again stands_now.kept stands_now.second))

  -- So what is kept decides as the calls do.
  pub answers_as_known : IsOfProgram h.config.layout → (aim : Aim)
      → answered_next (heard_answer number a h) (member_hearing h c a m) (area_of (heard_answer number a h) c) c aim step a
      ≡ next_in (heard_answer number a h) (member_hearing h c a m) (with_input (Told number a) x) (area_of (heard_answer number a h) c) c aim step a
  answers_as_known program aim =
      let new : HostState = heard_answer number a h in
      let m2 : MemberState = member_hearing h c a m in
      let y : Step = with_input (Told number a) x in
      let at : Spot = area_of new c in
      let p : ℕ = (place number c a h x k m to not_refused).0 in
      let g : Layout = new.config.layout in
      let last : List (Option Block) = last_blocks g (lease_calls y.setting (seen y) m2.who at) in
      ap (λ l. within_turn (place_in new m2) (known_by new m2 at l (blocks_at g l step a)) aim (lease_next (place_in new m2) (known_by new m2 at l (blocks_at g l step a)) aim c.number c.lver step a))
      (lease_is (Told number a) new y p m2 now at lease.0 found)
      ∙ within_alike (Told number a) new y p m2 now at lease.0 found aim (blocks_at g lease.0 step a) last
      (lease_next (place_in new m2) (known_by new m2 at lease.0 (blocks_at g lease.0 step a)) aim c.number c.lver step a)
      (lease_next (place_in new m2) (known_by new m2 at lease.0 last) aim c.number c.lver step a)
      (next_alike (Told number a) new y p m2 now at lease.0 found (subst (λ (z : Config). IsOfProgram z.layout) (sym heard_config) program) aim c.number c.lver step a
      (last_blocks g (map hears newest.0)) second_kept last_shown)
      ∙ sym (ap (λ z. within_turn (place_in new m2) z aim (lease_next (place_in new m2) z aim c.number c.lver step a)) (known_is (Told number a) new y p m2 now at lease.0 found))
