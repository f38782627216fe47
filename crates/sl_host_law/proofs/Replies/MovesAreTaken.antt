-- The host after a move stands for the step with it.
use Rattle.sl_host_law.proofs.SharedFacts.MembersAreSessions.{member_inside}
use Rattle.sl_host_law.proofs.SharedFacts.PlainLists.{at_some, filter_where}
use Rattle.sl_host_law.proofs.SharedFacts.PlainOrders.{inside_ordered}
use Rattle.sl_host_state.specs.KeptState.{HostState, MemberState}
use Rattle.sl_host_state.specs.MadeEffects.{is_ended_by_move, names_moved, with_move}
use Rattle.sl_host_state.specs.HostStands.{IsQuiet, Keeps, MemberStands, kept_call, kept_job, kept_waiting}
use Rattle.sl_trace.specs.Jobs.{child_of_job, command_of}
use Rattle.sl_words.proofs.Lists.{got_inside, in_map, kept, kept_inside}
use Rattle.sl_words.proofs.Numbers.{refl_le}
use Rattle.sl_host_law.proofs.Replies.Answers.JobsHearAnswer.{job_with}
use Rattle.sl_host_law.proofs.Replies.MembersKeepCalls.{member_stays}
use Rattle.sl_host_law.proofs.Replies.NotJoinedNotBegun.{begun_joined}
use Rattle.sl_host_law.proofs.Replies.PlainFilters.{filter_mapped, map_where}
use Rattle.sl_host_law.proofs.Replies.PresentInOrder.{present_kept}
use Rattle.sl_host_law.proofs.Replies.MomentsAreLater.{job_from, member_from, quiet_where}
use Rattle.sl_host_law.specs.Replies.Moves.{EndsBegun, MovesAreTaken}
use Rattle.sl_trace.specs.Sessions.{has_open_write, is_call_of, is_joined, is_present, joined_after, leaving_job, refused_after, removed_after, sessions}
use Rattle.sl_trace.specs.declared.session.Begun.{Begun}
use Rattle.sl_trace.specs.declared.session.Renewing.{Renewing}
use Rattle.sl_trace.specs.declared.session.Session.{Session}
use Rattle.sl_trace.specs.WatchdogConnections.{Connection, after_move, connections, renewed_connection, unregisters}
use Rattle.sl_trace.specs.Traces.{Job, Setting, Submitted, Trace, children, is_of_job, is_write, job_numbered, job_of, mark, new_call, running_jobs, submitted, unanswered}
use Rattle.sl_trace.specs.declared.effects.Call.{Call}
use Rattle.sl_trace.specs.declared.effects.Effects.{Effects}
use Rattle.sl_trace.specs.declared.effects.Move.TheVariants.{Register, Renew, Unregister}
use Rattle.sl_trace.specs.declared.effects.Move.{Move}
use Rattle.sl_trace.specs.declared.input.Input.TheVariants.{Answer as Told, Exit, Line, Number, Spawned, Wake}
use Rattle.sl_trace.specs.declared.input.Input.{Input}
use Rattle.sl_words.proofs.CaseLaws.{false_is_true, true_is_false}
use Rattle.sl_words.specs.Orders.{is_text_before}
use Rattle.sl_words.specs.Words.{choose}
use Rattle.std.proofs.Common.{ap, refl, subst, sym, ◌∙◌}
use Rattle.std.proofs.lemmas.List.Folds.{list_any-append}
use Rattle.std.proofs.lemmas.List.Sums.{fold-append}
use Rattle.std.proofs.lemmas.List.{map-append}
use Rattle.std.proofs.lemmas.Slice.Eq.{bytes_eq-Decides}
use Rattle.std.specs.List.{AllByRecursion, list_any, range_with_len}
use Rattle.std.specs.Prelude.{Bool, Contains, IsTrue, List, None, Option, Some, bytes_eq, false, filter, filter_map, find, fold, if◌then◌else◌, is_none, is_some, length, map, not, option_map, reverse, true, [], ℕ, ◌&&◌, ◌++◌, ◌+◌, ◌∷◌, ◌≡◌, ◌||◌}

-- ---- names

names_turned : (xs ys : List ℕ) → bytes_eq xs ys ≡ bytes_eq ys xs
names_turned xs ys = by (bytes_eq xs ys) refl (bytes_eq ys xs) refl where
  by : (a : Bool) → bytes_eq xs ys ≡ a → (b : Bool) → bytes_eq ys xs ≡ b → a ≡ b
  by true is true turned = refl
  by false is false turned = refl
  by true is false turned = absurd (true_is_false (sym ((bytes_eq-Decides ys xs).1 (sym ((bytes_eq-Decides xs ys).0 is))) ∙ turned))
  by false is true turned = absurd (true_is_false (sym ((bytes_eq-Decides xs ys).1 (sym ((bytes_eq-Decides ys xs).0 turned))) ∙ is))

-- The connections that stand after a move have the names that are kept.
named_after : (move : Move) (cs : List Connection) → map (λ (c : Connection). c.name) (after_move cs move) ≡ names_moved move (map (λ c. c.name) cs)
named_after (Register name expiry) cs = map-append (λ (c : Connection). c.name) cs (record { name = name; expiry = expiry } ∷ [])
named_after (Unregister name) cs = sym (filter_mapped (λ n. not (bytes_eq n name)) (λ (c : Connection). c.name) cs)
named_after (Renew name expiry) cs = same cs where
  one : (c : Connection) (b : Bool) → (if b then record c { expiry = expiry } else c).name ≡ c.name
  one c true = refl
  one c false = refl

  same : (ds : List Connection) → map (λ (c : Connection). c.name) (map (renewed_connection name expiry) ds) ≡ map (λ c. c.name) ds
  same [] = refl
  same (d ∷ ds) = ap (λ n. n ∷ map (λ (c : Connection). c.name) (map (renewed_connection name expiry) ds)) (one d (bytes_eq d.name name)) ∙ ap (λ ns. d.name ∷ ns) (same ds)

module _ (st : Setting) (past : Trace) (now : ℕ) (i : Input) (fx : Effects) (move : Move) (h : HostState) where
  abbrev before : Trace
  before = record { reading = now; input = i; effects = fx } ∷ past

  abbrev after : Trace
  after = record { reading = now; input = i; effects = record fx { moves = fx.moves ++ move ∷ [] } } ∷ past

  -- ---- what a move leaves

  marks_stay : (j : Input) (ms : List Submitted)
      → mark past (record { reading = now; input = i; effects = record fx { moves = fx.moves ++ move ∷ [] } }) j ms ≡ mark past (record { reading = now; input = i; effects = fx }) j ms
  marks_stay (Told number a) ms = refl
  marks_stay (Line text) ms = refl
  marks_stay (Number text) ms = refl
  marks_stay (Exit p) ms = refl
  marks_stay (Spawned p ok) ms = refl
  marks_stay Wake ms = refl

  calls_stay : submitted after ≡ submitted before
  calls_stay = ap (λ ms. fold (λ (ns : List Submitted) (c : Call). new_call (length past) now c ∷ ns) ms fx.calls) (marks_stay i (submitted past))

  -- ---- who is removed

  -- Whether the move removes the connection of a session that was joined before this step.
  abbrev removes : Session → Bool
  removes s = is_some (joined_after past s) && unregisters s.lockspace move

  removed_is : (s : Session) → is_none (removed_after after s) ≡ (is_none (removed_after before s) && not (removes s))
  removed_is s =
      ap (λ b. is_none (elim (removed_after past s) as (λ z. Option ℕ) [ Some k ↦ Some k | None ↦ choose (is_some (joined_after past s) && b) (length past + 1) ])) (list_any-append (unregisters s.lockspace) fx.moves (move ∷ []))
      ∙ by (removed_after past s) (is_some (joined_after past s)) (list_any (unregisters s.lockspace) fx.moves) (unregisters s.lockspace move) where
        by : (o : Option ℕ) (joined was now_goes : Bool)
            → is_none (elim o as (λ z. Option ℕ) [ Some k ↦ Some k | None ↦ choose (joined && (was || (now_goes || false))) (length past + 1) ])
            ≡ (is_none (elim o as (λ z. Option ℕ) [ Some k ↦ Some k | None ↦ choose (joined && was) (length past + 1) ]) && not (joined && now_goes))
        by (Some k) joined was now_goes = refl
        by None false was now_goes = refl
        by None true true now_goes = refl
        by None true false true = refl
        by None true false false = refl

  -- It stays unless it is joined and its connection goes.
  abbrev stays : Session → Bool
  stays s = not (is_joined before s && unregisters s.lockspace move)

  -- Who is joined and removed was joined before this step.
  abbrev JoinedBefore : Session → Type 0
  JoinedBefore s = (is_joined before s && unregisters s.lockspace move) ≡ true → is_some (joined_after past s) ≡ true

  joined_is : (s : Session) → JoinedBefore s → is_joined after s ≡ (is_joined before s && stays s)
  joined_is s joined_past = ap (λ b. is_some (joined_after before s) && b) (removed_is s) ∙ by (is_some (joined_after before s)) (is_none (removed_after before s)) (unregisters s.lockspace move) (is_some (joined_after past s)) joined_past where
    by : (joined stands goes was : Bool) → ((joined && stands && goes) ≡ true → was ≡ true) → (joined && (stands && not (was && goes))) ≡ (joined && stands && not (joined && stands && goes))
    by false stands goes was h = refl
    by true false goes was h = refl
    by true true true was h = ap (λ b. not (b && true)) (h refl)
    by true true false true h = refl
    by true true false false h = refl

  presence : (s : Session) → JoinedBefore s → is_present after s ≡ (is_present before s && stays s)
  presence s joined_past =
      ap (λ ms. is_none (elim (joined_after before s) as (λ z. Option ℕ) [ Some k ↦ removed_after after s | None ↦ refused_after before s ]) || is_none (joined_after before s) && list_any (λ m. is_write m.call.op) (unanswered (filter (is_call_of s) ms))) calls_stay
      ∙ by (joined_after before s) refl where
        and_true : (b : Bool) → b ≡ (b && true)
        and_true true = refl
        and_true false = refl

        of_joined : (gone_now stands goes was : Bool) → gone_now ≡ (stands && not (was && goes)) → ((stands && goes) ≡ true → was ≡ true) → (gone_now || false) ≡ ((stands || false) && not (stands && goes))
        of_joined z true true was is h = ap (λ b. b || false) (is ∙ ap (λ b. true && not (b && true)) (h refl))
        of_joined z true false true is h = ap (λ b. b || false) is
        of_joined z true false false is h = ap (λ b. b || false) is
        of_joined z false goes was is h = ap (λ b. b || false) is

        by : (o : Option ℕ) → joined_after before s ≡ o
            → (is_none (elim o as (λ z. Option ℕ) [ Some k ↦ removed_after after s | None ↦ refused_after before s ]) || is_none o && has_open_write before s)
            ≡ ((is_none (elim o as (λ z. Option ℕ) [ Some k ↦ removed_after before s | None ↦ refused_after before s ]) || is_none o && has_open_write before s) && stays s)
        by None is = and_true (is_none (refused_after before s) || has_open_write before s) ∙ sym (ap (λ o. (is_none (refused_after before s) || has_open_write before s) && not (is_some o && is_none (removed_after before s) && unregisters s.lockspace move)) is)
        by (Some k) is =
            of_joined (is_none (removed_after after s)) (is_none (removed_after before s)) (unregisters s.lockspace move) (is_some (joined_after past s)) (removed_is s)
            (λ both. joined_past (ap (λ o. is_some o && is_none (removed_after before s) && unregisters s.lockspace move) is ∙ both))
            ∙ sym (ap (λ o. (is_none (removed_after before s) || false) && not (is_some o && is_none (removed_after before s) && unregisters s.lockspace move)) is)

  -- ---- the members

  ended_is : (m : MemberState) → MemberStands st before m → (is_joined before m.who && unregisters m.who.lockspace move) ≡ is_ended_by_move move m
  ended_is m s = ap (λ b. b && unregisters m.who.lockspace move) s.joined ∙ by move where
    never : (b : Bool) → (b && false) ≡ false
    never true = refl
    never false = refl

    by : (v : Move) → (m.joined && unregisters m.who.lockspace v) ≡ is_ended_by_move v m
    by (Register name expiry) = never m.joined
    by (Renew name expiry) = never m.joined
    by (Unregister name) = ap (λ b. m.joined && b) (names_turned name m.who.lockspace)

  joined_past : Keeps h st before → EndsBegun move h → (s : Session) → Contains (sessions st before) s → JoinedBefore s
  joined_past k begun s inside ends =
      let present_too : is_present before s ≡ true = present_of (joined_after before s) (removed_after before s) ends in
      let in_order_too = inside_ordered (λ (a b : Session). is_text_before a.lockspace b.lockspace) (filter (is_present before) (sessions st before)) s (kept (is_present before) (sessions st before) s present_too inside) in
      let of_member = in_map (λ (m : MemberState). m.who) h.members s (subst (λ ss. Contains ss s) k.present in_order_too) in
      let m : MemberState = of_member.0 in
      let place = at_some h.members m of_member.1 in
      let stands = k.members place.0 m place.1 in
      let ended : is_ended_by_move move m ≡ true = sym (ended_is m stands) ∙ ap (λ (z : Session). is_joined before z && unregisters z.lockspace move) of_member.2 ∙ ends in
      let is_begun = begun place.0 m place.1 ended in
      subst (λ (z : Session). is_some (joined_after past z) ≡ true) of_member.2
      (begun_joined st (record { reading = now; input = i; effects = fx }) past m.who
      (ap (λ (r : Renewing). is_some r.recovery || is_some (leaving_job st before m.who)) stands.renewing
      ∙ ap (λ b. is_some m.renewing.recovery || b) (sym (some_mapped (leaving_job st before m.who)) ∙ ap is_some stands.leaving) ∙ is_begun)) where
        leaving_begun : Job → Begun
        leaving_begun j = record { at = j.at; reading = j.reading; kills_from = j.at + 1 }

        some_mapped : (o : Option Job) → is_some (option_map leaving_begun o) ≡ is_some o
        some_mapped None = refl
        some_mapped (Some j) = refl

        present_of : (o p : Option ℕ) → (is_some o && is_none p && unregisters s.lockspace move) ≡ true
            → (is_none (elim o as (λ z. Option ℕ) [ Some k ↦ p | None ↦ refused_after before s ]) || is_none o && has_open_write before s) ≡ true
        present_of None p is = absurd (false_is_true is)
        present_of (Some k) None is = refl
        present_of (Some k) (Some j) is = absurd (false_is_true is)

  member_moved : Keeps h st before → EndsBegun move h → (m : MemberState) → Contains h.members m → is_ended_by_move move m ≡ false → MemberStands st after m
  member_moved k begun m there stays_here =
      let place = at_some h.members m there in
      let s = k.members place.0 m place.1 in
      let inside = (member_inside h st before place.0 m k place.1).0 in
      let joined : is_joined after m.who ≡ m.joined =
      joined_is m.who (joined_past k begun m.who inside) ∙ ap (λ b. is_joined before m.who && not b) (ended_is m s ∙ stays_here) ∙ and_true (is_joined before m.who) ∙ s.joined in
      member_stays st before after m m.joined m.refused (record { calls = calls_stay; renewals = refl; leaving = refl }) joined s.refused (λ still. still) s where
        and_true : (b : Bool) → (b && true) ≡ b
        and_true true = refl
        and_true false = refl

  whos : Keeps h st before → filter stays (map (λ (m : MemberState). m.who) h.members) ≡ map (λ m. m.who) (filter (λ m. not (is_ended_by_move move m)) h.members)
  whos k =
      filter_mapped stays (λ (m : MemberState). m.who) h.members
      ∙ ap (map (λ (m : MemberState). m.who)) (filter_where (λ m. stays m.who) (λ m. not (is_ended_by_move move m)) h.members (λ m there.
      let place = at_some h.members m there in
      ap not (ended_is m (k.members place.0 m place.1))))

  job_same : (j : Job) → kept_job after j ≡ kept_job before j
  job_same j = ap (λ ms. job_with j.number (command_of j) (child_of_job before j.number) (option_map kept_waiting (find (is_of_job j.number) (unanswered ms)))) calls_stay

  pub keeps_moved : Keeps h st before → EndsBegun move h → Keeps (with_move move h) st after
  keeps_moved k begun =
      record {
        config = k.config;
        entries = k.entries;
        calls = ap (λ ms. st.first.call + length ms) calls_stay ∙ k.calls;
        lines = k.lines;
        replied = k.replied;
        started = k.started;
        born = k.born;
        numbered = ap (λ (ms : List Submitted). map (λ m. m.call.number) ms) calls_stay ∙ k.numbered ∙ sym (ap (λ ms. reverse (range_with_len st.first.call (length ms))) calls_stay);
        counted = k.counted;
        present = present_kept st before after stays refl (λ s there. presence s (joined_past k begun s there)) ∙ ap (filter stays) k.present ∙ whos k;
        members = λ n m at.
            let inside = kept_inside (λ (m : MemberState). not (is_ended_by_move move m)) h.members m (got_inside (filter (λ m. not (is_ended_by_move move m)) h.members) n m at) in
            member_moved k begun m inside.0 (not_it (is_ended_by_move move m) inside.1);
        connected = ap (map (λ (c : Connection). c.name)) (fold-append after_move (connections st past) fx.moves (move ∷ [])) ∙ named_after move (connections st before) ∙ ap (names_moved move) k.connected;
        unanswered = ap (λ ms. map kept_call (unanswered ms)) calls_stay ∙ k.unanswered;
        single = k.single;
        owned = subst
            (λ ms. AllByRecursion (λ j. IsTrue (is_some (job_numbered st before j))) (filter_map (λ m. job_of m.call.purpose) ms ++ filter_map (λ c. c.job) (children before)))
            (sym calls_stay) k.owned;
        jobs = map_where (kept_job after) (kept_job before) (running_jobs st before) (λ j there. job_same j) ∙ k.jobs;
        holdings = k.holdings;
        children = k.children;
        programs = k.programs;
      } where
        not_it : (b : Bool) → not b ≡ true → b ≡ false
        not_it false is = refl
        not_it true is = absurd (false_is_true is)

quiet_moved : (move : Move) (h : HostState) → IsQuiet h → IsQuiet (with_move move h)
quiet_moved move h quiet =
    quiet_where (with_move move h)
    (λ m there. member_from h.quiet_until h (refl_le h.quiet_until) quiet m (kept_inside (λ (m : MemberState). not (is_ended_by_move move m)) h.members m there).0)
    (λ j there. job_from h.quiet_until h (refl_le h.quiet_until) quiet j there)

pub moves_are_taken : MovesAreTaken
moves_are_taken move i h x s begun =
    record {
      input = s.input;
      past = s.past;
      reading = s.reading;
      before = s.before;
      made = ap (λ (fx : Effects). record fx { moves = fx.moves ++ move ∷ [] }) s.made;
      keeps = keeps_moved x.setting x.past x.reading x.input x.effects move h s.keeps begun;
      quiet = quiet_moved move h s.quiet;
    }
