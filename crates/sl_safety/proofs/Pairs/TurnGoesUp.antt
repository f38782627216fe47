-- A block of a host has the turn above the one that its session was shown last.
use Rattle.sl_area.specs.AreaSizes.{Layout}
use Rattle.sl_area.specs.Pairs.{pair_read}
use Rattle.sl_safety.proofs.GivenReads.BlocksNameHosts.{own_host}
use Rattle.sl_safety.proofs.Resources.CallsTakeTurns.{First, One, Second, Turns, turns_of}
use Rattle.sl_safety.proofs.Resources.BlockOrigins.{in_older}
use Rattle.sl_safety.proofs.Resources.Calls.{IsWork}
use Rattle.sl_safety.proofs.Resources.StepsNameCalls.{block_works, read_works, worker_joined}
use Rattle.sl_safety.proofs.Resources.LastBlock.{of_lease}
use Rattle.sl_safety.proofs.Resources.OwnBlocks.{behind, layout_at, passes_test}
use Rattle.sl_safety.specs.Resources.Orders.{BlockSent}
use Rattle.sl_safety.specs.Resources.HistoryLaws.{spot_of_line}
use Rattle.sl_safety.specs.Resources.SentCalls.{Sent, all_sent, holder_of, is_joined_there, reads_blocks, sender_of, step_of, writes_block}
use Rattle.sl_safety.proofs.Pairs.PairLandings.{pair_written, turn_sent}
use Rattle.sl_safety.proofs.Pairs.LastTurn.{By_read, By_write, ShowsAny, ShowsTurn, shows_turn}
use Rattle.sl_safety.proofs.Pairs.Looks.{LookFound, look_found, reads_only}
use Rattle.sl_safety.proofs.Pairs.Orders.{answered_by, one_join}
use Rattle.sl_safety.proofs.Pairs.SentBlocks.{PairSent, pair_found, session_is, told_of}
use Rattle.sl_safety.proofs.Pairs.LogEvents.{AnswersAt, answers_at, done_is, turn_is}
use Rattle.sl_safety.proofs.Pairs.TurnsRest.{TurnRests, look_told, turn_rests, was_shown, write_told}
use Rattle.sl_safety.proofs.Resources.EarlierCalls.{IsEarlier, WasShown, is_earlier, read_passes, sent_with}
use Rattle.sl_safety.proofs.Resources.GivenBlocks.{GaveRead, gave_read}
use Rattle.sl_safety.proofs.Pairs.Writes.{IsPair}
use Rattle.sl_safety.specs.Pairs.PairLogs.{is_look_at, is_of_host, join_of, look_at, look_of, pair_log, pair_sent}
use Rattle.sl_safety.specs.Resources.SampledReads.{blocks_sampled}
use Rattle.sl_ballot_law.specs.PairLogs.Logs.{By_look, By_ok, IsKnown, Look, Shows}
use Rattle.sl_words.proofs.Lists.{contains_cases, contains_none}
use Rattle.sl_run.specs.Runs.{Happening}
use Rattle.sl_run.specs.Safety.{LawfulRun, world_at}
use Rattle.sl_run.specs.Worlds.{Course, Program, Stamp, World}
use Rattle.sl_run.specs.declared.header.Header.{Header}
use Rattle.sl_run.specs.declared.header.ResourceLine.{ResourceLine}
use Rattle.sl_sector.specs.declared.sector.PairBlock.{PairBlock}
use Rattle.sl_sector.specs.declared.sector.Rec.TheVariants.{BlockIs, DeltaIs, LeaderIs, PairIs, PairLeaderIs, RequestIs, ValueIs}
use Rattle.sl_sector.specs.declared.sector.Rec.{Rec}
use Rattle.sl_trace.specs.Leases.{block_of_record, is_on, turn_of_record}
use Rattle.sl_trace.specs.Traces.{Submitted, record_of}
use Rattle.sl_trace.specs.declared.effects.Call.{Call}
use Rattle.sl_words.proofs.CaseLaws.{none_some, one_value, some_value}
use Rattle.sl_words.specs.Words.{first_of_list, some_is}
use Rattle.std.proofs.Common.{ap, arith, inl, inr, refl, subst, sym, ◌∙◌}
use Rattle.std.proofs.lemmas.Bool.{and_from, eq-eqb}
use Rattle.std.specs.List.{cons_option}
use Rattle.std.specs.Option.{option_map_or}
use Rattle.std.specs.Prelude.{Contains, List, None, Option, Some, [], false, filter_map, is_some, option_and_then, option_map, true, ℕ, ◌&&◌, ◌+◌, ◌<◌, ◌==◌, ◌∷◌, ◌≡◌, ◌≤◌, ◌⊎◌}

-- ---- answers of one session

-- Of two works of a session what was made first was answered first.
answered_in_order : (p : Program) (h : Header) (xs : List Happening) → LawfulRun p h xs → (r : ResourceLine) → Contains h.resources r → (x z : Sent) → IsWork (world_at p h xs) r x
    → IsWork (world_at p h xs) r z → sender_of x ≡ sender_of z → Contains (all_sent (world_at p h xs)) x → Contains (all_sent (world_at p h xs)) z → step_of x ≤ step_of z → (s u : Stamp)
    → x.course.answered ≡ Some s → z.course.answered ≡ Some u → s.step ≤ u.step
answered_in_order p h xs run r there x z one two same has also low s u told other = by (turns_of p h xs run r there x z has also one two same)
  where
    by : Turns x z → s.step ≤ u.step
    by (One is) =
        let e : s.step ≡ u.step = ap (λ (y : Stamp). y.step) (one_value s u z.course.answered (ap (λ (y : Sent). y.course.answered) (sym is) ∙ told) other) in omega (arith, e)
    by (First v was early) =
        let e : v.step ≡ s.step = ap (λ (y : Stamp). y.step) (one_value v s x.course.answered was told) in
        let late : step_of z < u.step = answered_by p h xs run z two.owned u other in
        omega (arith, e, late, early)
    by (Second v was early) =
        let e : v.step ≡ u.step = ap (λ (y : Stamp). y.step) (one_value v u z.course.answered was other) in
        let late : step_of z < u.step = answered_by p h xs run z two.owned u other in
        absurd (omega (arith, e, late, early, low))

-- What was answered at one step is one.
one_answer : (p : Program) (h : Header) (xs : List Happening) → LawfulRun p h xs → (r : ResourceLine) → Contains h.resources r → (x z : Sent) → IsWork (world_at p h xs) r x
    → IsWork (world_at p h xs) r z → sender_of x ≡ sender_of z → Contains (all_sent (world_at p h xs)) x → Contains (all_sent (world_at p h xs)) z → (s u : Stamp)
    → x.course.answered ≡ Some s → z.course.answered ≡ Some u → s.step ≡ u.step → x ≡ z
one_answer p h xs run r there x z one two same has also s u told other at = by (turns_of p h xs run r there x z has also one two same)
  where
    by : Turns x z → x ≡ z
    by (One is) = is
    by (First v was early) =
        let e : v.step ≡ s.step = ap (λ (y : Stamp). y.step) (one_value v s x.course.answered was told) in
        let late : step_of z < u.step = answered_by p h xs run z two.owned u other in
        absurd (omega (arith, e, late, early, at))
    by (Second v was early) =
        let e : v.step ≡ u.step = ap (λ (y : Stamp). y.step) (one_value v u z.course.answered was other) in
        let late : step_of x < s.step = answered_by p h xs run x one.owned s told in
        absurd (omega (arith, e, late, early, at))

-- ---- a read that the log has

first_of_mapped : {A B : Type 0} (f : A → Option B) (xs : List A) (x : A) (y : B) → Contains xs x → f x ≡ Some y → (z : B) × (first_of_list (filter_map f xs) ≡ Some z)
first_of_mapped f [] x y there is = absurd (contains_none x there)
first_of_mapped {A} {B} f (a ∷ xs) x y there is = by (λ old. first_of_mapped f xs x y old is) (f a) refl (contains_cases a xs x there)
  where
    by : (Contains xs x → (z : B) × (first_of_list (filter_map f xs) ≡ Some z)) → (o : Option B) → f a ≡ o → (a ≡ x) ⊎ Contains xs x
        → (z : B) × (first_of_list (cons_option o (filter_map f xs)) ≡ Some z)
    by rest (Some b) at c = (b, refl)
    by rest None at (inl same) = absurd (none_some y (sym at ∙ ap f same ∙ is))
    by rest None at (inr more) = rest more

pub record ReadThere (p : Program) (h : Header) (xs : List Happening) (r : ResourceLine) (k : ℕ) (z : Sent) : Type 0 where
  pub has : Contains (all_sent (world_at p h xs)) z
  pub reads : reads_blocks z.course ≡ true
  pub done : z.course.done ≡ true
  pub on : is_on (world_at p h xs).layout (spot_of_line r) z.course.call ≡ true
  pub stamp : Stamp
  pub answered : z.course.answered ≡ Some stamp
  pub joined : is_joined_there (world_at p h xs) r.lockspace (sender_of z) ≡ true
  pub host : (holder_of (world_at p h xs) (sender_of z)).id ≡ k
  pub work : IsWork (world_at p h xs) r z

stamped : (t : ℕ) (o : Option Stamp) (s : Stamp) → o ≡ Some s → s.step ≡ t → some_is (λ (y : Stamp). y.step == t) o ≡ true
stamped t o s is at = ap (λ q. some_is (λ (y : Stamp). y.step == t) q) is ∙ eq-eqb s.step t at

pub look_there : (p : Program) (h : Header) (xs : List Happening) → LawfulRun p h xs → (r : ResourceLine) → Contains h.resources r → (k : ℕ) (z : Sent) (y : ReadThere p h xs r k z)
    → (q : PairBlock) → pair_read (world_at p h xs).layout (blocks_sampled (world_at p h xs).layout z.course) k ≡ Some q
    → (look : Look) × ((pair_log (world_at p h xs) r k).looks (join_of (world_at p h xs) r (sender_of z)) y.stamp.step ≡ Some look) × (look.turn ≡ q.turn)
look_there p h xs run r there k z y q gives =
    let w : World = world_at p h xs in
    let j : ℕ = join_of w r (sender_of z) in
    let t : ℕ = y.stamp.step in
    let two = and_from (reads_blocks z.course && z.course.done) (is_on w.layout (spot_of_line r) z.course.call) (and_from (reads_blocks z.course) z.course.done y.reads y.done) y.on in
    let three = and_from _ (some_is (λ (s : Stamp). s.step == t) z.course.answered) two (stamped t z.course.answered y.stamp y.answered refl) in
    let four = and_from _ (is_of_host w r k (sender_of z)) three
    (and_from (is_joined_there w r.lockspace (sender_of z)) ((holder_of w (sender_of z)).id == k) y.joined (eq-eqb (holder_of w (sender_of z)).id k y.host)) in
    let is : is_look_at w r k j t z ≡ true = and_from _ (join_of w r (sender_of z) == j) four (eq-eqb j j refl) in
    let at : look_at w r k j t z ≡ Some (look_of k z q) =
    ap (λ b. elim b as (λ c. Option Look) [ false ↦ None | true ↦ option_map (look_of k z) (pair_read w.layout (blocks_sampled w.layout z.course) k) ]) is
    ∙ ap (option_map (look_of k z)) gives in
    let f = first_of_mapped (look_at w r k j t) (all_sent w) z (look_of k z q) y.has at in
    let g : LookFound p h xs r k j t f.0 = look_found p h xs run r k j t f.0 f.1 in
    let sender : sender_of g.sent ≡ sender_of z = one_join p h xs run r there g.sent z g.work y.work (g.host ∙ sym y.host) g.join in
    let same : g.sent ≡ z = one_answer p h xs run r there g.sent z g.work y.work sender g.has y.has g.stamp y.stamp g.answered y.answered g.at in
    let pair : g.pair ≡ q =
    one_value g.pair q (pair_read w.layout (blocks_sampled w.layout z.course) k)
    (ap (λ (v : Sent). pair_read w.layout (blocks_sampled w.layout v.course) k) (sym same) ∙ g.gives) gives in
    (f.0, f.1, ap (λ (v : Look). v.turn) g.same ∙ ap (λ (v : PairBlock). v.turn) pair)

-- ---- what shows the turn below

pub record LastShown (p : Program) (h : Header) (xs : List Happening) (r : ResourceLine) (k : ℕ) (z : Sent) (session at shown : ℕ) : Type 0 where
  pub work : IsWork (world_at p h xs) r z
  pub shows : Shows (pair_log (world_at p h xs) r k) session at shown

wrote_pair : (o : Option Rec) (n : ℕ) → option_and_then turn_of_record o ≡ Some n → (q : PairBlock) × (o ≡ Some (PairIs q)) × (q.turn ≡ n)
wrote_pair None n h = absurd (none_some n h)
wrote_pair (Some (PairIs q)) n h = (q, refl, some_value q.turn n h)
wrote_pair (Some (BlockIs b)) n h = absurd (none_some n h)
wrote_pair (Some (LeaderIs l)) n h = absurd (none_some n h)
wrote_pair (Some (PairLeaderIs l)) n h = absurd (none_some n h)
wrote_pair (Some (DeltaIs l)) n h = absurd (none_some n h)
wrote_pair (Some (RequestIs l)) n h = absurd (none_some n h)
wrote_pair (Some (ValueIs l)) n h = absurd (none_some n h)

block_there : (o : Option Rec) (q : PairBlock) → o ≡ Some (PairIs q) → is_some (option_and_then block_of_record o) ≡ true
block_there o q is = ap (λ z. is_some (option_and_then block_of_record z)) is

last_shown : (p : Program) (h : Header) (xs : List Happening) → LawfulRun p h xs → (r : ResourceLine) → Contains h.resources r → (k e : ℕ) (x : PairSent p h xs r k e)
    → (t : TurnRests p h xs r x.sent) → IsEarlier (world_at p h xs) r x.sent (sent_with x.sent t.last.course) → (a : WasShown x.sent t.last.course t.stands.daemon t.last.call)
    → ShowsTurn t.stands.daemon.setting.layout t.stands.session.id t.last.call t.shown
    → LastShown p h xs r k (sent_with x.sent t.last.course) ((pair_log (world_at p h xs) r k).session e) a.told.stamp.step t.shown
last_shown p h xs run r there k e x t y a (By_write is ok) =
    let w : World = world_at p h xs in
    let c : Course = t.last.course in
    let z : Sent = sent_with x.sent c in
    let q = wrote_pair (record_of c.call.op) t.shown (ap (λ (v : Call). option_and_then turn_of_record (record_of v.op)) (sym t.last.pair.call) ∙ is) in
    let writes : writes_block c ≡ true = block_there (record_of c.call.op) q.0 q.1 in
    let b : BlockSent w r k z = record { sent = y.has; on = y.on; block = writes; host = ap (λ i. (holder_of w i).id) y.sender ∙ x.host } in
    let told : pair_sent w r k (step_of z) ≡ Some z = told_of p h xs run r there k z b in
    record {
      work = block_works p h xs run r there z y.has y.on writes;
      shows = By_ok (step_of z) (ap (λ o. is_some o) told)
          (ap (λ o. option_map_or (λ (v : Sent). join_of w r (sender_of v)) o 0) told ∙ ap (join_of w r) y.sender ∙ sym (session_is p h xs r k e x))
          (ap (λ o. some_is (λ (v : Sent). v.course.done) o) told ∙ a.done)
          (ap (option_and_then (λ (v : Sent). option_map (λ (s : Stamp). s.step) v.course.answered)) told ∙ ap (option_map (λ (s : Stamp). s.step)) a.told.answered)
          (turn_is p h xs r k (step_of z) z told ∙ turn_sent z q.0 q.1 ∙ q.2);
    }
last_shown p h xs run r there k e x t y a (By_read bs told q gives turn) =
    let w : World = world_at p h xs in
    let g : Layout = t.stands.daemon.setting.layout in
    let m : Submitted = t.last.call in
    let c : Course = t.last.course in
    let z : Sent = sent_with x.sent c in
    let layout : g ≡ w.layout = layout_at p h xs run x.sent t.stands in
    let b : GaveRead w c bs = gave_read w t.stands.daemon c m t.last.pair layout bs told in
    let id : t.stands.session.id ≡ k = sym (own_host w x.sent t.stands) ∙ x.host in
    let pair : pair_read w.layout (blocks_sampled w.layout c) k ≡ Some q =
    ap (λ n. pair_read w.layout (blocks_sampled w.layout c) n) (sym id) ∙ ap (λ v. pair_read w.layout v t.stands.session.id) (sym b.bytes)
    ∙ ap (λ (v : Layout). pair_read v bs t.stands.session.id) (sym layout) ∙ gives in
    let joined : is_joined_there w r.lockspace (sender_of z) ≡ true = ap (is_joined_there w r.lockspace) y.sender ∙ worker_joined p h xs r x.sent x.work in
    let work : IsWork w r z = read_works p h xs run r z y.has y.on (and_from (reads_blocks c && c.done) _ (and_from (reads_blocks c) c.done b.reads a.done) joined) in
    let r_there : ReadThere p h xs r k z =
    record {
      has = y.has;
      reads = b.reads;
      done = a.done;
      on = y.on;
      stamp = a.told.stamp;
      answered = a.told.answered;
      joined = joined;
      host = ap (λ i. (holder_of w i).id) y.sender ∙ x.host;
      work = work;
    } in
    let look = look_there p h xs run r there k z r_there q pair in
    record {
      work = work;
      shows = By_look look.0
          (ap (λ j. (pair_log w r k).looks j a.told.stamp.step) (session_is p h xs r k e x ∙ ap (join_of w r) (sym y.sender)) ∙ look.1)
          (look.2 ∙ turn);
    }

-- ---- none after it

-- Another answer of the session by then that shows a turn came no later.
no_newer : (p : Program) (h : Header) (xs : List Happening) → LawfulRun p h xs → (r : ResourceLine) → Contains h.resources r → (x : Sent) (t : TurnRests p h xs r x)
    → IsEarlier (world_at p h xs) r x (sent_with x t.last.course) → (a : WasShown x t.last.course t.stands.daemon t.last.call) → IsWork (world_at p h xs) r (sent_with x t.last.course)
    → (v : Sent) → Contains (all_sent (world_at p h xs)) v → IsWork (world_at p h xs) r v → sender_of v ≡ sender_of x → (s : Stamp) → v.course.answered ≡ Some s → s.step ≤ step_of x
    → of_lease t.stands.daemon.setting t.stands.session (spot_of_line r) v.course.call ≡ true
    → ShowsAny t.stands.daemon.setting.layout t.stands.session.id t.stands.daemon t.stands.told.older v.course → s.step ≤ a.told.stamp.step
no_newer p h xs run r there x t y a work v has other same s told early passes any =
    let w : World = world_at p h xs in
    let z : Sent = sent_with x t.last.course in
    let late : step_of v < s.step = answered_by p h xs run v other.owned s told in
    let low : step_of v ≤ step_of z = t.last.newest v.course (behind w x t.stands v has same (omega (arith, late, early))) passes any in
    answered_in_order p h xs run r there v z other work (same ∙ sym y.sender) has y.has low s a.told.stamp told a.told.answered

never_after : (a b s at : ℕ) → s ≡ b → s ≤ at → at < b → ⊥
never_after a b s at e low late = omega (arith, e, low, late)

by_then : (s b e n : ℕ) → s ≡ b → b ≤ e → n ≡ e → s ≤ n
by_then s b e n i low j = omega (arith, i, low, j)

none_after : (p : Program) (h : Header) (xs : List Happening) (r : ResourceLine) → IsPair p h xs r → (world_at p h xs).layout.paired ≡ true → (k e : ℕ) (x : PairSent p h xs r k e)
    → (t : TurnRests p h xs r x.sent) → IsEarlier (world_at p h xs) r x.sent (sent_with x.sent t.last.course) → (a : WasShown x.sent t.last.course t.stands.daemon t.last.call)
    → IsWork (world_at p h xs) r (sent_with x.sent t.last.course) → (b u : ℕ) → Shows (pair_log (world_at p h xs) r k) ((pair_log (world_at p h xs) r k).session e) b u
    → a.told.stamp.step < b → b ≤ e → ⊥
none_after p h xs r i paired k e x t y a work b u (By_ok n is session done told turn) late low =
    let w : World = world_at p h xs in
    let v = pair_found p h xs i.run r i.there k n is in
    let s : AnswersAt v.sent b = answers_at p h xs r k n v b told in
    let same = one_join p h xs i.run r i.there v.sent x.sent v.work x.work (v.host ∙ sym x.host) (sym (session_is p h xs r k n v) ∙ session ∙ session_is p h xs r k e x) in
    let q = pair_written p h xs i.run paired v.sent v.is.sent v.block in
    never_after e b s.stamp.step a.told.stamp.step s.at
    (no_newer p h xs i.run r i.there x.sent t y a work v.sent v.is.sent v.work same s.stamp s.is (by_then s.stamp.step b e (step_of x.sent) s.at low x.is.step_is)
    (passes_test p h xs i.run (spot_of_line r) x.sent t.stands v.sent v.is.sent v.is.on v.block same)
    (λ m there pair none. none_some q.0.turn
    (sym none ∙ write_told t.stands.daemon.setting.layout t.stands.session.id t.stands.daemon v.sent.course m pair s.stamp s.is (done_is p h xs r k n v done) q.0 q.1))) late
none_after p h xs r i paired k e x t y a work b u (By_look look is turn) late low =
    let w : World = world_at p h xs in
    let f : LookFound p h xs r k ((pair_log w r k).session e) b look = look_found p h xs i.run r k ((pair_log w r k).session e) b look is in
    let same = one_join p h xs i.run r i.there f.sent x.sent f.work x.work (f.host ∙ sym x.host) (f.join ∙ session_is p h xs r k e x) in
    let reads = reads_only p h xs i.run r i.there f.sent f.has f.reads f.on in
    never_after e b f.stamp.step a.told.stamp.step f.at
    (no_newer p h xs i.run r i.there x.sent t y a work f.sent f.has f.work same f.stamp f.answered (by_then f.stamp.step b e (step_of x.sent) f.at low x.is.step_is)
    (read_passes p h xs i.run (spot_of_line r) x.sent t.stands f.sent f.on f.reads same)
    (λ m there pair none. none_some f.pair.turn
    (sym none
    ∙ look_told p h xs i.run x.sent t.stands k x.host paired f.sent.course m
    (in_older _ t.stands.told.newer t.stands.told.older t.stands.told.one m t.stands.told.is there) pair f.stamp f.answered f.done reads f.reads f.pair f.gives))) late

-- ---- so it is known

pub next : (p : Program) (h : Header) (xs : List Happening) (r : ResourceLine) → IsPair p h xs r → (world_at p h xs).layout.paired ≡ true → (k e : ℕ)
    → (pair_log (world_at p h xs) r k).writes e ≡ true
    → (shown : ℕ) × IsKnown (pair_log (world_at p h xs) r k) ((pair_log (world_at p h xs) r k).session e) e shown × ((pair_log (world_at p h xs) r k).turn e ≡ shown + 1)
next p h xs r i paired k e is =
    let w : World = world_at p h xs in
    let x = pair_found p h xs i.run r i.there k e is in
    let t : TurnRests p h xs r x.sent = turn_rests p h xs i.run r i.there paired k e x in
    let y = is_earlier p h xs i.run r x.sent t.stands t.last.course t.last.has t.last.passes in
    let a = was_shown p h xs i.run r x.sent x.work t in
    let l = last_shown p h xs i.run r i.there k e x t y a
    (shows_turn t.stands.daemon.setting.layout t.stands.session.id t.last.call t.shown t.last.shown) in (
      t.shown,
      record {
        at = a.told.stamp.step;
        by = subst (λ n. a.told.stamp.step ≤ n) x.is.step_is a.early;
        shows = l.shows;
        newest = λ b u shows late low. none_after p h xs r i paired k e x t y a l.work b u shows late low;
      },
      turn_is p h xs r k e x.sent x.found ∙ turn_sent x.sent t.pair t.writes ∙ t.next,
    )
