-- What a block's turn rests on: a call of its session before it that shows the turn below, and none after that shows one.
use Rattle.sl_area.specs.AreaSizes.{Layout}
use Rattle.sl_area.specs.AreaLayout.{blocks_part}
use Rattle.sl_area.specs.Pairs.{pair_read}
use Rattle.sl_safety.proofs.GivenReads.BlocksNameHosts.{own_host}
use Rattle.sl_safety.proofs.Resources.BlockOrigins.{answered_before, is_among, line_aligned, told_spot}
use Rattle.sl_safety.proofs.Resources.Calls.{IsWork}
use Rattle.sl_safety.proofs.Resources.AnswersFit.{answers_fit}
use Rattle.sl_safety.proofs.Resources.LastBlock.{lease_kept, of_lease}
use Rattle.sl_safety.proofs.Resources.OwnBlocks.{layout_at, works}
use Rattle.sl_safety.proofs.Resources.CallParts.{Standing, standing}
use Rattle.sl_safety.specs.Resources.HistoryLaws.{spot_of_line}
use Rattle.sl_safety.specs.Resources.SentCalls.{Sent, holder_of, reads_blocks, sender_of}
use Rattle.sl_safety.proofs.Pairs.PairLandings.{pair_written}
use Rattle.sl_safety.proofs.Pairs.LastTurn.{By_read, By_write, LastTurn, ShowsTurn, last_turn, read_shows, shows_turn, write_shows}
use Rattle.sl_safety.proofs.Pairs.SentBlocks.{PairSent}
use Rattle.sl_safety.proofs.Pairs.TurnLaws.{turns_come}
use Rattle.sl_safety.specs.Resources.SampledReads.{blocks_sampled}
use Rattle.sl_run.specs.LawfulBlock.{LawfulTurn}
use Rattle.sl_run.specs.Runs.{Happening}
use Rattle.sl_run.specs.Safety.{LawfulRun, world_at}
use Rattle.sl_run.specs.Worlds.{Course, Daemon, Program, Stamp, World}
use Rattle.sl_run.specs.declared.header.Header.{Header}
use Rattle.sl_run.specs.declared.header.ResourceLine.{ResourceLine}
use Rattle.sl_run_law.specs.Course.CallStamps.{IsCourseOf}
use Rattle.sl_sector.specs.declared.sector.PairBlock.{PairBlock}
use Rattle.sl_sector.specs.declared.sector.Rec.TheVariants.{PairIs}
use Rattle.sl_trace.specs.Leases.{base_turn, is_area_read, is_block_read, spot_of_call, turn_of_record, turn_shown, turn_written}
use Rattle.sl_trace.specs.Traces.{Answered, Setting, Submitted, bytes_given, gave, is_answer_for, is_answered_ok, is_ok_answer, is_write, new_call, record_of, submitted}
use Rattle.sl_trace.specs.declared.input.Answer.TheVariants.{Failed, Read, Written}
use Rattle.sl_trace.specs.declared.input.Answer.{Answer}
use Rattle.sl_trace.specs.declared.effects.Call.{Call}
use Rattle.sl_trace.specs.declared.effects.Op.TheVariants.{ReadSectors, WriteRecord}
use Rattle.sl_trace.specs.declared.effects.Op.{Op}
use Rattle.sl_trace.specs.declared.effects.Spot.{Spot}
use Rattle.sl_run_law.specs.Leases.LeaseLaws.{WasAnsweredBy}
use Rattle.sl_run_law.specs.Leases.Ways.{lease_among}
use Rattle.sl_words.proofs.CaseLaws.{false_is_true, none_some, one_value}
use Rattle.sl_words.specs.Words.{some_is}
use Rattle.std.proofs.Common.{ap, inl, inr, refl, subst, sym, ◌∙◌}
use Rattle.std.proofs.lemmas.Bool.{or_left, or_right}
use Rattle.std.specs.Prelude.{Contains, List, None, Option, Some, if◌then◌else◌, not, option_and_then, true, ℕ, ◌+◌, ◌≡◌, ◌≤◌, ◌⊎◌}
use Rattle.sl_safety.proofs.Resources.EarlierCalls.{WasShown, was_answered}
use Rattle.sl_safety.proofs.Resources.GivenBlocks.{gave_blocks, gives_bytes, told_ok}

-- ---- what shows a turn works, and was answered ok

write_works : (o : Op) (t : ℕ) → option_and_then turn_of_record (record_of o) ≡ Some t → is_write o ≡ true
write_works (ReadSectors n) t h = absurd (none_some t h)
write_works (WriteRecord r) t h = refl

shows_work : (g : Layout) (id : ℕ) (m : Submitted) (t : ℕ) → ShowsTurn g id m t → works m.call ≡ true
shows_work g id m t (By_write is ok) = or_left (is_write m.call.op) (is_block_read m) (write_works m.call.op t is)
shows_work g id m t (By_read bs told q gives turn) = or_right (is_write m.call.op) (is_block_read m) (gave_blocks g m bs told).reads

pub shows_ok : (g : Layout) (id : ℕ) (m : Submitted) (t : ℕ) → ShowsTurn g id m t → is_answered_ok m ≡ true
shows_ok g id m t (By_write is ok) = ok
shows_ok g id m t (By_read bs told q gives turn) = (gave_blocks g m bs told).ok

-- ---- what a turn rests on

pub record TurnRests (p : Program) (h : Header) (xs : List Happening) (r : ResourceLine) (x : Sent) : Type 0 where
  pub stands : Standing (world_at p h xs) x
  pub pair : PairBlock
  pub writes : record_of x.course.call.op ≡ Some (PairIs pair)
  pub spot : spot_of_call stands.daemon.setting.layout stands.told.one ≡ spot_of_line r
  pub shown : ℕ
  pub next : pair.turn ≡ shown + 1
  pub last : LastTurn stands.daemon.setting.layout stands.session.id stands.daemon stands.told.older (of_lease stands.daemon.setting stands.session (spot_of_line r)) stands.before shown

abbrev own_turns : {w : World} {x : Sent} → Standing w x → Spot → ℕ
own_turns {w} {x} s at = base_turn s.daemon.setting.layout s.session.id (lease_among s.daemon.setting s.session at s.told.older)

-- What shows a turn there was answered by then.
answered_by_then : (p : Program) (h : Header) (xs : List Happening) → LawfulRun p h xs → (r : ResourceLine) (x : Sent) (s : Standing (world_at p h xs) x) → IsWork (world_at p h xs) r x
    → (y : Submitted) → Contains (lease_among s.daemon.setting s.session (spot_of_call s.daemon.setting.layout s.told.one) s.told.older) y → (a : Answered) → y.answer ≡ Some a
    → (turn_shown s.daemon.setting.layout s.session.id y ≡ None) ⊎ (a.at ≤ s.told.one.at)
answered_by_then p h xs run r x s work y there a told = by (turn_shown s.daemon.setting.layout s.session.id y) refl
  where
    by : (o : Option ℕ) → turn_shown s.daemon.setting.layout s.session.id y ≡ o → (turn_shown s.daemon.setting.layout s.session.id y ≡ None) ⊎ (a.at ≤ s.told.one.at)
    by None is = inl is
    by (Some t) is =
        let st : Setting = s.daemon.setting in
        let among = is_among st s.session (spot_of_call st.layout s.told.one) s.told.older y there in
        let was : WasAnsweredBy y s.told.one =
        answered_before p h xs run x s work.work work.area y among (shows_work st.layout s.session.id y t (shows_turn st.layout s.session.id y t is)) in
        inr (subst (λ (z : Answered). z.at ≤ s.told.one.at) (one_value was.answer a y.answer was.answered told) was.by)

pub turn_rests : (p : Program) (h : Header) (xs : List Happening) → LawfulRun p h xs → (r : ResourceLine) → Contains h.resources r → (world_at p h xs).layout.paired ≡ true → (k e : ℕ)
    → (x : PairSent p h xs r k e) → TurnRests p h xs r x.sent
turn_rests p h xs run r there paired k e x =
    let w : World = world_at p h xs in
    let s : Standing w x.sent = standing p h xs run x.sent x.is.sent in
    let st : Setting = s.daemon.setting in
    let q = pair_written p h xs run paired x.sent x.is.sent x.block in
    let spot : spot_of_call st.layout s.told.one ≡ spot_of_line r = told_spot p h xs run (spot_of_line r) (line_aligned p h xs run r there) x.sent s x.is.on in
    let wrote : turn_written s.told.one ≡ Some q.0.turn =
    ap (λ (c : Call). option_and_then turn_of_record (record_of c.op)) s.told.pair.call ∙ ap (λ o. option_and_then turn_of_record o) q.1 in
    let law : LawfulTurn q.0.turn (own_turns s (spot_of_call st.layout s.told.one)) =
    turns_come st s.daemon.trace s.lawful s.told.newer s.told.older s.told.one s.told.is q.0.turn wrote s.session s.known (answered_by_then p h xs run r x.sent s x.work) in
    record {
      stands = s;
      pair = q.0;
      writes = q.1;
      spot = spot;
      shown = own_turns s (spot_of_call st.layout s.told.one);
      next = law.next;
      last = last_turn st.layout s.session.id s.daemon s.told.older (of_lease st s.session (spot_of_line r)) (x.sent.course.made.step + 1) s.before s.told.older
          (own_turns s (spot_of_call st.layout s.told.one)) (λ m has. has) s.told.pairs s.fall
          (ap (λ ms. base_turn st.layout s.session.id ms) (sym (lease_kept st s.session (spot_of_line r) s.told.older)) ∙ ap (λ at. own_turns s at) (sym spot)) law.seen;
    }

-- ---- when it was answered

pub was_shown : (p : Program) (h : Header) (xs : List Happening) → LawfulRun p h xs → (r : ResourceLine) (x : Sent) → IsWork (world_at p h xs) r x → (t : TurnRests p h xs r x)
    → WasShown x t.last.course t.stands.daemon t.last.call
was_shown p h xs run r x work t =
    let s : Standing (world_at p h xs) x = t.stands in
    let m : Submitted = t.last.call in
    let shows = shows_turn s.daemon.setting.layout s.session.id m t.shown t.last.shown in
    was_answered p h xs run r x work s t.spot t.last.course m t.last.inside t.last.pair t.last.passes (shows_work s.daemon.setting.layout s.session.id m t.shown shows)
    (shows_ok s.daemon.setting.layout s.session.id m t.shown shows)

-- ---- what an answer of a call shows

-- An ok of a block's write shows its turn.
pub write_told : (g : Layout) (id : ℕ) (d : Daemon) (c : Course) (m : Submitted) → IsCourseOf d c m → (s : Stamp) → c.answered ≡ Some s → c.done ≡ true → (q : PairBlock)
    → record_of c.call.op ≡ Some (PairIs q) → turn_shown g id m ≡ Some q.turn
write_told g id d c m pair s told done q is =
    let a = told_ok d c m pair s told done in
    write_shows g id m q.turn (ap (λ (y : Call). option_and_then turn_of_record (record_of y.op)) pair.call ∙ ap (λ o. option_and_then turn_of_record o) is)
    (ap (λ o. some_is (λ (y : Answered). is_ok_answer y.answer) o) a.is ∙ a.ok)

-- A read's answer gives what it sampled.
told_read : (st : Setting) (a : Answer) (o : Op) → is_answer_for st a o ≡ true → is_ok_answer a ≡ true → not (is_write o) ≡ true → (bytes : List ℕ) × (a ≡ Read bytes)
told_read st (Read bytes) o fits ok reads = (bytes, refl)
told_read st Written (ReadSectors n) fits ok reads = absurd (false_is_true fits)
told_read st Written (WriteRecord r) fits ok reads = absurd (false_is_true reads)
told_read st Failed o fits ok reads = absurd (false_is_true ok)

no_turn : (o : Op) → not (is_write o) ≡ true → option_and_then turn_of_record (record_of o) ≡ None
no_turn (ReadSectors n) reads = refl
no_turn (WriteRecord r) reads = absurd (false_is_true reads)

pub gave_sampled : (p : Program) (h : Header) (xs : List Happening) (x : Sent) (s : Standing (world_at p h xs) x) (c : Course) (m : Submitted)
    → Contains (submitted s.daemon.trace) m → IsCourseOf s.daemon c m → (t : Stamp) → c.answered ≡ Some t → c.done ≡ true → not (is_write c.call.op) ≡ true → gave m ≡ Some c.sampled
gave_sampled p h xs x s c m there pair t told done reads =
    let a = told_ok s.daemon c m pair t told done in
    let b = told_read s.daemon.setting a.answer.answer m.call.op (answers_fit s.daemon.setting s.daemon.trace s.lawful m there a.answer a.is) a.ok
    (ap (λ (y : Call). not (is_write y.op)) pair.call ∙ reads) in
    ap (λ o. option_and_then (λ (y : Answered). bytes_given y.answer) o) a.is ∙ ap bytes_given b.1 ∙ ap (λ bs. Some bs) (a.told.gives b.0 b.1)

pub look_told : (p : Program) (h : Header) (xs : List Happening) → LawfulRun p h xs → (x : Sent) (s : Standing (world_at p h xs) x) (k : ℕ) → (holder_of (world_at p h xs) (sender_of x)).id ≡ k
    → (world_at p h xs).layout.paired ≡ true → (c : Course) (m : Submitted) → Contains (submitted s.daemon.trace) m → IsCourseOf s.daemon c m → (t : Stamp) → c.answered ≡ Some t → c.done ≡ true
    → not (is_write c.call.op) ≡ true → reads_blocks c ≡ true → (q : PairBlock) → pair_read (world_at p h xs).layout (blocks_sampled (world_at p h xs).layout c) k ≡ Some q
    → turn_shown s.daemon.setting.layout s.session.id m ≡ Some q.turn
look_told p h xs run x s k host paired c m there pair t told done reads blocks q gives =
    let w : World = world_at p h xs in
    let layout : s.daemon.setting.layout ≡ w.layout = layout_at p h xs run x s in
    let id : s.session.id ≡ k = sym (own_host w x s) ∙ host in
    subst (λ (g : Layout). turn_shown g s.session.id m ≡ Some q.turn) (sym layout)
    (subst (λ n. turn_shown w.layout n m ≡ Some q.turn) (sym id)
    (read_shows w.layout k m (blocks_sampled w.layout c) q paired
    (ap (λ (y : Call). option_and_then turn_of_record (record_of y.op)) pair.call ∙ no_turn c.call.op reads)
    (gives_bytes w.layout m c.sampled (gave_sampled p h xs x s c m there pair t told done reads) (ap (λ (y : Call). is_block_read (new_call 0 0 y)) pair.call ∙ blocks)
    ∙ ap (λ (y : Call). Some (if is_area_read (new_call 0 0 y) then blocks_part w.layout c.sampled else c.sampled)) pair.call) gives))
