-- A read of a trace as the history has it: one that gave blocks before a session's write is a read of the history, which was answered by then.
use Rattle.sl_area.specs.AreaSizes.{Layout}
use Rattle.sl_run_law.specs.Course.CallStamps.{IsCourseOf}
use Rattle.sl_run.specs.LawfulArea.{is_area_work, is_same_read}
use Rattle.sl_run_law.proofs.Front.JoinedLists.{contains_right}
use Rattle.sl_words.proofs.Lists.{contains_first, tail_is}
use Rattle.sl_safety.proofs.GivenReads.ReadsAreGiven.{reads_are_given}
use Rattle.sl_safety.proofs.GivenReads.ReadsInTraces.{given_below, read_told}
use Rattle.sl_safety.proofs.Resources.BlockOrigins.{IsAmong, answer_step, answered_before, is_among, line_aligned, own_there, reads_work, told_spot}
use Rattle.sl_safety.proofs.Resources.Calls.{IsWork}
use Rattle.sl_safety.proofs.Resources.StepsNameCalls.{block_works as block_is_work, worker_joined}
use Rattle.sl_safety.proofs.Resources.OwnBlocks.{block_is_lease, block_works, layout_at, lease_is_work, number_at, session_as, works}
use Rattle.sl_safety.proofs.Resources.LastReadAgrees.{LookFound}
use Rattle.sl_safety.proofs.Resources.HistoryShows.{HasBlock, IsOf, Seen, has_block, seen_by}
use Rattle.sl_safety.proofs.Resources.CallParts.{Standing}
use Rattle.sl_safety.specs.Resources.Histories.{is_host}
use Rattle.sl_safety.specs.Resources.HistoryLaws.{history_of_line, spot_of_line}
use Rattle.sl_safety.specs.Resources.Reads.{ReadBlocks}
use Rattle.sl_safety.specs.Resources.SentCalls.{Sent, all_sent, began_at, block_of_course, is_joined_there, read_at, sender_of, step_of}
use Rattle.sl_run.specs.Runs.{Happening}
use Rattle.sl_run.specs.Safety.{LawfulRun, world_at}
use Rattle.sl_run.specs.Worlds.{Daemon, Program, Stamp, World, machine_at}
use Rattle.sl_run.specs.declared.header.Header.{Header}
use Rattle.sl_run.specs.declared.header.ResourceLine.{ResourceLine}
use Rattle.sl_sector.specs.declared.sector.Block.{Block}
use Rattle.sl_trace.specs.Leases.{blocks_given, is_again, is_lease_call, is_on, spot_of_call}
use Rattle.sl_trace.specs.Traces.{Setting, Submitted, Trace, new_call, submitted}
use Rattle.sl_trace.specs.declared.effects.Call.{Call}
use Rattle.std.proofs.Common.{ap, arith, refl, subst, sym, ◌∙◌}
use Rattle.std.proofs.lemmas.Bool.{and_from, le-leb}
use Rattle.std.specs.Option.{option_map_or}
use Rattle.std.specs.Prelude.{Bool, Contains, List, Option, Some, [], cond, false, filter, is_some, option_and_then, slice_get, true, ℕ, ◌&&◌, ◌++◌, ◌+◌, ◌-◌, ◌<◌, ◌∷◌, ◌≡◌, ◌≤◌}
use Rattle.sl_trace.specs.Sessions.{is_call_of, session_numbered}
use Rattle.sl_trace.specs.declared.effects.Spot.{Spot}
use Rattle.sl_trace.specs.declared.session.Session.{Session}
use Rattle.sl_run_law.specs.Leases.Ways.{lease_among}
use Rattle.sl_words.proofs.CaseLaws.{none_some, some_value}
use Rattle.sl_safety.specs.Resources.SampledReads.{reads_again}
use Rattle.sl_run_law.proofs.Leases.NumberLaws.{number_is_place}
use Rattle.sl_safety.proofs.Resources.Looks.{IsLookBefore, began_once, began_with, begun_twice}
use Rattle.std.proofs.lemmas.List.{append_assoc}
use Rattle.sl_safety.proofs.Resources.ReadBeginnings.{IsRead, look_counts, second_of, read_at_step}
use Rattle.sl_safety.proofs.Resources.TraceCalls.{stands_at}
use Rattle.sl_safety.proofs.Resources.GivenBlocks.{gives_enough}

-- ---- the read by itself

-- A read of blocks that a joined session was given is a read of the history.
counted_as : (p : Program) (h : Header) (xs : List Happening) (r : ResourceLine) (z : Sent) → Contains (all_sent (world_at p h xs)) z
    → (s : Standing (world_at p h xs) z) → is_on (world_at p h xs).layout (spot_of_line r) z.course.call ≡ true → is_joined_there (world_at p h xs) r.lockspace (sender_of z) ≡ true
    → (before : List Submitted) (bs : List (Option Block)) → blocks_given s.daemon.setting.layout s.told.one before ≡ Some bs → IsRead p h xs r z
counted_as p h xs r z has s on joined before bs given =
    let t = read_told s.daemon z.course s.told.one before bs s.told.pair given in
    record { has = has; on = on; counted = and_from _ _ (and_from _ _ t.reads t.done) joined }

pub counted_at : (p : Program) (h : Header) (xs : List Happening) → LawfulRun p h xs → (r : ResourceLine) → Contains h.resources r → (z : Sent) → Contains (all_sent (world_at p h xs)) z
    → (s : Standing (world_at p h xs) z) → is_on (world_at p h xs).layout (spot_of_line r) z.course.call ≡ true → is_joined_there (world_at p h xs) r.lockspace (sender_of z) ≡ true
    → (bs : List (Option Block))
    → blocks_given s.daemon.setting.layout s.told.one (lease_among s.daemon.setting s.session (spot_of_line r) s.told.older) ≡ Some bs
    → read_at (world_at p h xs) (spot_of_line r) r.lockspace (began_at (world_at p h xs) (spot_of_line r) z) ≡ Some z
counted_at p h xs run r there z has s on joined bs given =
    let before : List Submitted = lease_among s.daemon.setting s.session (spot_of_line r) s.told.older in
    read_at_step p h xs run r there z (counted_as p h xs r z has s on joined before bs given)
    (gives_enough (world_at p h xs) s.daemon z.course s.told.one s.told.pair (layout_at p h xs run z s) before bs given)

pub counted_reads : (p : Program) (h : Header) (xs : List Happening) → LawfulRun p h xs → (r : ResourceLine) → Contains h.resources r → (z : Sent) → Contains (all_sent (world_at p h xs)) z
    → (s : Standing (world_at p h xs) z) → is_on (world_at p h xs).layout (spot_of_line r) z.course.call ≡ true → is_joined_there (world_at p h xs) r.lockspace (sender_of z) ≡ true
    → (bs : List (Option Block))
    → blocks_given s.daemon.setting.layout s.told.one (lease_among s.daemon.setting s.session (spot_of_line r) s.told.older) ≡ Some bs
    → ReadBlocks (world_at p h xs) r (began_at (world_at p h xs) (spot_of_line r) z) bs
counted_reads p h xs run r there z has s on joined bs given =
    record {
      sent = z;
      found = counted_at p h xs run r there z has s on joined bs given;
      machine = s.machine;
      at = s.at;
      inside = s.inside;
      daemon = s.daemon;
      has = s.has;
      newer = s.told.newer;
      call = s.told.one;
      older = s.told.older;
      told = s.told.is;
      pair = s.told.pair;
      session = s.session;
      known = s.known;
      given = given;
    }

-- ---- when it began

-- One that is made once more began with the session's call on the area before it.
pub record BeganWith (w : World) (r : ResourceLine) (z : Sent) (s : Standing w z) : Type 0 where
  pub first : Sent
  pub has : Contains (all_sent w) first
  pub look : IsLookBefore w (spot_of_line r) z first
  pub began : began_at w (spot_of_line r) z ≡ step_of first
  pub told : Submitted
  pub rest : List Submitted
  pub newest : lease_among s.daemon.setting s.session (spot_of_line r) s.told.older ≡ told ∷ rest
  pub same : is_same_read told s.told.one ≡ true
  pub pair : IsCourseOf s.daemon first.course told

pub began_twice : (p : Program) (h : Header) (xs : List Happening) → LawfulRun p h xs → (r : ResourceLine) → Contains h.resources r → (z : Sent) (s : Standing (world_at p h xs) z)
    → IsWork (world_at p h xs) r z → is_again s.told.one ≡ true → BeganWith (world_at p h xs) r z s
began_twice p h xs run r there z s work again =
    let w : World = world_at p h xs in
    let at : Spot = spot_of_line r in
    let too : reads_again z.course ≡ true = ap (λ (c : Call). is_again (new_call 0 0 c)) (sym s.told.pair.call) ∙ again in
    let f = second_of p h xs run r there z work s too in
    record {
      first = f.first;
      has = f.has;
      look = f.look;
      began = began_with w at z f.first (begun_twice w at z f.first too f.last);
      told = f.told;
      rest = f.rest;
      newest = f.newest;
      same = f.same;
      pair = f.pair;
    }

-- One that is made once began with itself.
pub began_alone : (w : World) (r : ResourceLine) (z : Sent) (s : Standing w z) → is_again s.told.one ≡ false → began_at w (spot_of_line r) z ≡ step_of z
began_alone w r z s once = began_once w (spot_of_line r) z (ap (λ (c : Call). is_again (new_call 0 0 c)) (sym s.told.pair.call) ∙ once)

-- ---- before a write

-- A call of a lease that is made alone, by a session of the resource's lockspace.
pub record IsWriter (p : Program) (h : Header) (xs : List Happening) (r : ResourceLine) (x : Sent) (s : Standing (world_at p h xs) x) : Type 0 where
  pub run : LawfulRun p h xs
  pub there : Contains h.resources r
  pub joined : is_joined_there (world_at p h xs) r.lockspace (sender_of x) ≡ true
  pub work : works x.course.call ≡ true
  pub area : is_area_work x.course.call.purpose ≡ true
  pub spot : spot_of_call s.daemon.setting.layout s.told.one ≡ spot_of_line r

-- Who writes a block is one.
pub writer_of : (p : Program) (h : Header) (xs : List Happening) → LawfulRun p h xs → (r : ResourceLine) → Contains h.resources r → (x : Sent) → Contains (all_sent (world_at p h xs)) x
    → (s : Standing (world_at p h xs) x) → is_on (world_at p h xs).layout (spot_of_line r) x.course.call ≡ true → (b : Block) → block_of_course x.course ≡ Some b → IsWriter p h xs r x s
writer_of p h xs run r there x has s on b is =
    record {
      run = run;
      there = there;
      joined = worker_joined p h xs r x (block_is_work p h xs run r there x has on (ap (λ o. is_some o) is));
      work = block_works x.course b is;
      area = lease_is_work x.course.call.purpose (block_is_lease (world_at p h xs) x s b is);
      spot = told_spot p h xs run (spot_of_line r) (line_aligned p h xs run r there) x s on;
    }

-- A read of the lease before it.
pub record ReadBefore (p : Program) (h : Header) (xs : List Happening) (r : ResourceLine) (x : Sent) (bs : List (Option Block)) : Type 0 where
  pub step : ℕ
  pub blocks : ReadBlocks (world_at p h xs) r step bs
  pub early : (history_of_line p h xs r).answer step ≤ step_of x

-- Where a call of the lease stands in the trace.
pub record LeaseParts (st : Setting) (s : Session) (at : Spot) (ms : List Submitted) (q : Submitted) (before : List Submitted) : Type 0 where
  pub newer : List Submitted
  pub older : List Submitted
  pub is : ms ≡ newer ++ q ∷ older
  pub rest : lease_among st s at older ≡ before

record FilterParts {A : Type 0} (p : A → Bool) (xs : List A) (x : A) (rest : List A) : Type 0 where
  newer : List A
  older : List A
  is : xs ≡ newer ++ x ∷ older
  kept : filter p older ≡ rest

filter_more : {A : Type 0} (p : A → Bool) (y : A) (xs : List A) (x : A) (rest : List A) → FilterParts p xs x rest → FilterParts p (y ∷ xs) x rest
filter_more p y xs x rest f = record { newer = y ∷ f.newer; older = f.older; is = ap (λ l. y ∷ l) f.is; kept = f.kept }

filter_by : {A : Type 0} (p : A → Bool) (y : A) (xs front : List A) (x : A) (rest : List A) (b : Bool) → p y ≡ b → cond b (y ∷ filter p xs) (filter p xs) ≡ front ++ x ∷ rest
    → ((a : List A) → filter p xs ≡ a ++ x ∷ rest → FilterParts p xs x rest) → FilterParts p (y ∷ xs) x rest
filter_by p y xs front x rest false is h later = filter_more p y xs x rest (later front h)
filter_by p y xs [] x rest true is h later =
    record { newer = []; older = xs; is = ap (λ z. z ∷ xs) (some_value y x (ap (λ l. slice_get l 0) h)); kept = tail_is y x (filter p xs) rest h }
filter_by p y xs (z ∷ front) x rest true is h later = filter_more p y xs x rest (later front (tail_is y z (filter p xs) (front ++ x ∷ rest) h))

filter_parts : {A : Type 0} (p : A → Bool) (xs front : List A) (x : A) (rest : List A) → filter p xs ≡ front ++ x ∷ rest → FilterParts p xs x rest
filter_parts p [] [] x rest h = absurd (none_some x (ap (λ l. slice_get l 0) h))
filter_parts p [] (z ∷ front) x rest h = absurd (none_some z (ap (λ l. slice_get l 0) h))
filter_parts p (y ∷ xs) front x rest h = filter_by p y xs front x rest (p y) refl h (λ a k. filter_parts p xs a x rest k)

pub lease_parts : (st : Setting) (s : Session) (at : Spot) (ms newer : List Submitted) (q : Submitted) (before : List Submitted) → lease_among st s at ms ≡ newer ++ q ∷ before
    → LeaseParts st s at ms q before
lease_parts st s at ms newer q before split =
    let P : Submitted → Bool = λ m. is_lease_call m && is_on st.layout at m.call in
    let a : FilterParts P (filter (is_call_of s) ms) q before = filter_parts P (filter (is_call_of s) ms) newer q before split in
    let b : FilterParts (is_call_of s) ms q a.older = filter_parts (is_call_of s) ms a.newer q a.older a.is in
    record { newer = b.newer; older = b.older; is = b.is; rest = ap (filter P) b.kept ∙ a.kept }

pub among_split : (st : Setting) (s : Session) (at : Spot) (ms newer : List Submitted) (q : Submitted) (before : List Submitted) → lease_among st s at ms ≡ newer ++ q ∷ before
    → IsAmong st s at ms q
among_split st s at ms newer q before split =
    is_among st s at ms q (subst (λ l. Contains l q) (sym split) (contains_right newer (q ∷ before) q (contains_first q before)))

pub read_before : (p : Program) (h : Header) (xs : List Happening) (r : ResourceLine) (x : Sent) (s : Standing (world_at p h xs) x) → IsWriter p h xs r x s
    → (newer : List Submitted) (q : Submitted) (before : List Submitted) → lease_among s.daemon.setting s.session (spot_of_line r) s.told.older ≡ newer ++ q ∷ before
    → (bs : List (Option Block)) → blocks_given s.daemon.setting.layout q before ≡ Some bs → ReadBefore p h xs r x bs
read_before p h xs r x s k newer q before split bs given =
    let w : World = world_at p h xs in
    let at = spot_of_line r in
    let st : Setting = s.daemon.setting in
    let es : Trace = s.daemon.trace in
    let among : IsAmong st s.session at s.told.older q = among_split st s.session at s.told.older newer q before split in
    let a : LeaseParts st s.session at s.told.older q before = lease_parts st s.session at s.told.older newer q before split in
    let whole : submitted es ≡ (s.told.newer ++ s.told.one ∷ a.newer) ++ q ∷ a.older =
    s.told.is ∙ ap (λ ms. s.told.newer ++ s.told.one ∷ ms) a.is ∙ sym (append_assoc s.told.newer (s.told.one ∷ a.newer) (q ∷ a.older)) in
    let known : session_numbered st es q.call.session ≡ Some s.session =
    ap (λ i. session_numbered st es i) (among.session ∙ number_is_place st es s.told.one.call.session s.session s.known) ∙ s.known in
    let z = stands_at p h xs k.run x.machine s.machine s.daemon s.at s.has s.lawful (s.told.newer ++ s.told.one ∷ a.newer) a.older q whole s.session known in
    let session : z.sent.course.call.session ≡ x.course.call.session = ap (λ (y : Call). y.session) (sym z.pair.call) ∙ among.session ∙ number_at w x s in
    let sender : sender_of z.sent ≡ sender_of x =
    session_as z.sent.machine z.sent.course.daemon z.sent.course.call.session x.machine x.course.daemon x.course.call.session z.machine_is (z.daemon_is ∙ s.number) session in
    let on : is_on w.layout at z.sent.course.call ≡ true =
    ap (λ (y : Call). is_on w.layout at y) (sym z.pair.call) ∙ ap (λ g. is_on g at q.call) (sym (layout_at p h xs k.run x s)) ∙ among.on in
    let joined = ap (λ j. is_joined_there w r.lockspace j) sender ∙ k.joined in
    let told : blocks_given st.layout q (lease_among st s.session at a.older) ≡ Some bs = ap (blocks_given st.layout q) a.rest ∙ given in
    let its : blocks_given z.stands.daemon.setting.layout z.stands.told.one (lease_among z.stands.daemon.setting z.stands.session at z.stands.told.older) ≡ Some bs =
    ap (λ (d : Daemon). blocks_given d.setting.layout z.stands.told.one (lease_among d.setting z.stands.session at z.stands.told.older)) z.daemon
    ∙ ap (λ m. blocks_given st.layout m (lease_among st z.stands.session at z.stands.told.older)) z.one
    ∙ ap (λ v. blocks_given st.layout q (lease_among st v at z.stands.told.older)) z.session
    ∙ ap (λ ms. blocks_given st.layout q (lease_among st s.session at ms)) z.older_is ∙ told in
    let found = counted_at p h xs k.run r k.there z.sent z.has z.stands on joined bs its in
    let by = answered_before p h xs k.run x s k.work k.area q (subst (λ a. IsAmong st s.session a s.told.older q) (sym k.spot) among) (reads_work st.layout q before bs given) in
    let t = read_told s.daemon z.sent.course q before bs z.pair given in
    record {
      step = began_at w at z.sent;
      blocks = counted_reads p h xs k.run r k.there z.sent z.has z.stands on joined bs its;
      early = subst (λ n. n ≤ step_of x)
          (sym (ap (λ o. option_map_or (λ (v : Stamp). v.step) (option_and_then (λ (y : Sent). y.course.answered) o) 0) found
          ∙ ap (λ o. option_map_or (λ (v : Stamp). v.step) o 0) t.answered.answered))
          (answer_step p h xs k.run x s q by t.answer t.its t.answered.stamp t.answered.entry);
    }

-- ---- what it gave

one_on : (j n : ℕ) → j < n → (1 ≤ j + 1) × (j + 1 ≤ n)
one_on j n h = (omega arith, omega (arith, h))

one_back : (j : ℕ) → j + 1 - 1 ≡ j
one_back j = omega arith

-- A block that it gave was submitted before the write, or is fresh.
pub seen_before : (p : Program) (h : Header) (xs : List Happening) (r : ResourceLine) (x : Sent) (s : Standing (world_at p h xs) x) → IsWriter p h xs r x s
    → (newer : List Submitted) (q : Submitted) (before : List Submitted) → lease_among s.daemon.setting s.session (spot_of_line r) s.told.older ≡ newer ++ q ∷ before
    → (bs : List (Option Block)) → blocks_given s.daemon.setting.layout q before ≡ Some bs
    → (j : ℕ) (b : Block) → slice_get bs j ≡ Some (Some b) → Seen (world_at p h xs) (spot_of_line r) b (step_of x)
seen_before p h xs r x s k newer q before split bs given j b taken =
    let w : World = world_at p h xs in
    let f = read_before p h xs r x s k newer q before split bs given in
    let g : Layout = s.daemon.setting.layout in
    let below : j < w.layout.hosts = subst (λ y. j < y.hosts) (layout_at p h xs k.run x s) (given_below g q before bs j (Some b) given taken) in
    let range = one_on j w.layout.hosts below in
    let host : is_host w (j + 1) ≡ true = and_from _ _ (le-leb 1 (j + 1) range.0) (le-leb (j + 1) w.layout.hosts range.1) in
    let o : IsOf p h xs r f.step (j + 1) bs = record { run = k.run; there = k.there; give = reads_are_given p h xs r k.run k.there; read = f.blocks; host = host } in
    let y : HasBlock p h xs r f.step (j + 1) b = has_block p h xs r f.step (j + 1) bs o b (subst (λ i. slice_get bs i ≡ Some (Some b)) (sym (one_back j)) taken) in
    seen_by w (spot_of_line r) b ((history_of_line p h xs r).answer f.step) (step_of x) f.early y.seen

-- ---- the last look

-- The last look before a write is a read of the history.
pub look_at : (p : Program) (h : Header) (xs : List Happening) → LawfulRun p h xs → (r : ResourceLine) → Contains h.resources r → (x : Sent) (s : Standing (world_at p h xs) x) (own : Block)
    → (f : LookFound (world_at p h xs) (spot_of_line r) x s own) → is_joined_there (world_at p h xs) r.lockspace (sender_of x) ≡ true
    → read_at (world_at p h xs) (spot_of_line r) r.lockspace (began_at (world_at p h xs) (spot_of_line r) f.sent) ≡ Some f.sent
look_at p h xs run r there x s own f joined =
    read_at_step p h xs run r there f.sent (record { has = f.has; on = f.look.on; counted = look_counts (world_at p h xs) r x f.sent joined f.look }) f.enough

look_reads : (p : Program) (h : Header) (xs : List Happening) → LawfulRun p h xs → (r : ResourceLine) → Contains h.resources r → (x : Sent) (s : Standing (world_at p h xs) x) (own : Block)
    → (f : LookFound (world_at p h xs) (spot_of_line r) x s own) → is_joined_there (world_at p h xs) r.lockspace (sender_of x) ≡ true
    → ReadBlocks (world_at p h xs) r (began_at (world_at p h xs) (spot_of_line r) f.sent) f.blocks
look_reads p h xs run r there x s own f joined =
    let w : World = world_at p h xs in
    let st : Setting = s.daemon.setting in
    let es : Trace = s.daemon.trace in
    record {
      sent = f.sent;
      found = look_at p h xs run r there x s own f joined;
      machine = s.machine;
      at = ap (machine_at w) f.machine ∙ s.at;
      inside = f.inside;
      daemon = s.daemon;
      has = s.has;
      newer = s.told.newer ++ s.told.one ∷ f.newer;
      call = f.told;
      older = f.older;
      told = s.told.is ∙ ap (λ ms. s.told.newer ++ s.told.one ∷ ms) f.split ∙ sym (append_assoc s.told.newer (s.told.one ∷ f.newer) (f.told ∷ f.older));
      pair = f.pair;
      session = s.session;
      known = ap (λ i. session_numbered st es i) (f.among.session ∙ number_is_place st es s.told.one.call.session s.session s.known) ∙ s.known;
      given = f.given;
    }

-- What it shows of the own host is the own block.
pub look_has : (p : Program) (h : Header) (xs : List Happening) → LawfulRun p h xs → (r : ResourceLine) → Contains h.resources r → (x : Sent) (s : Standing (world_at p h xs) x) (own : Block)
    → (f : LookFound (world_at p h xs) (spot_of_line r) x s own) → is_joined_there (world_at p h xs) r.lockspace (sender_of x) ≡ true
    → is_host (world_at p h xs) s.session.id ≡ true → HasBlock p h xs r (began_at (world_at p h xs) (spot_of_line r) f.sent) s.session.id own
look_has p h xs run r there x s own f joined host =
    let n : ℕ = began_at (world_at p h xs) (spot_of_line r) f.sent in
    let o : IsOf p h xs r n s.session.id f.blocks =
    record { run = run; there = there; give = reads_are_given p h xs r run there; read = look_reads p h xs run r there x s own f joined; host = host } in
    has_block p h xs r n s.session.id f.blocks o own (own_there f.blocks s.session.id own f.block)
