-- What a place has held comes in order; so a read that was submitted once a block was answered ok shows that block, or one that was submitted
-- later, where each host's block has one sector.
use Rattle.sl_area.specs.AreaSizes.{Layout}
use Rattle.sl_area.specs.AreaLayout.{block_offset, in_area}
use Rattle.sl_run_law.proofs.Front.JoinedLists.{contains_append, contains_left, placed_at}
use Rattle.sl_run_law.proofs.Landing.LandingOrder.{come_in_order}
use Rattle.sl_run_law.proofs.Landing.LandingLaws.{done_writes_have_landed, landings_are_written}
use Rattle.sl_run_law.proofs.Landing.LandedRemain.{landed_are_there}
use Rattle.sl_run_law.specs.Landing.Landings.{HasWriter}
use Rattle.sl_run.specs.LawfulArea.{LawfulAreaWrite}
use Rattle.sl_trace.specs.Leases.{is_on, spot_of_call}
use Rattle.sl_run_law.proofs.Place.FoundInLists.{numbered_inside, same_text}
use Rattle.sl_run_law.proofs.Place.TracesOnMachines.{call_law}
use Rattle.sl_words.proofs.Lists.{contains_cases, contains_first, contains_more, contains_none, kept, kept_inside}
use Rattle.sl_words.proofs.Numbers.{equal_is_most, less_is_most}
use Rattle.sl_safety.proofs.Resources.OneSessionStands.{head_pairs, tail_pairs}
use Rattle.sl_safety.proofs.Resources.Calls.{Name, found_of, holder_is, made_of, name_of, one_sent, owned, owner_found, owner_layout, spot_is, there_sent, writes_is}
use Rattle.sl_safety.proofs.Resources.StepsNameCalls.{plain_block_sent, record_sent, write_is}
use Rattle.sl_safety.proofs.GivenReads.LandingOrder.{in_order}
use Rattle.sl_safety.proofs.GivenReads.ShownAtPlace.{IsShownOf, in_history, landed_block, plain_place, sector_is, shown_of, stands_there}
use Rattle.sl_safety.specs.Resources.Histories.{is_host}
use Rattle.sl_safety.specs.Resources.SampledReads.{landing_shown, sector_number, step_of_landing}
use Rattle.sl_safety.specs.Resources.Orders.{BlockSent, Follows, LandedAt}
use Rattle.sl_safety.specs.Resources.HistoryLaws.{spot_of_line}
use Rattle.sl_safety.specs.Resources.SentCalls.{Sent, all_sent, reads_blocks, sender_of, step_of}
use Rattle.sl_run.specs.Runs.{Happening}
use Rattle.sl_run.specs.Safety.{LawfulRun, world_at}
use Rattle.sl_run.specs.Worlds.{Course, Landing, Machine, Program, Stamp, World, first_landing, history_of, landed_at}
use Rattle.sl_run.specs.declared.header.Header.{Header}
use Rattle.sl_run.specs.declared.header.ResourceLine.{ResourceLine}
use Rattle.sl_run_law.proofs.Sample.LandingNumbers.{newest_number, number_below, number_stays}
use Rattle.sl_run_law.specs.Sample.Samples.{numbered_landing, sector_place}
use Rattle.sl_sector.specs.declared.sector.Rec.TheVariants.{BlockIs}
use Rattle.sl_run_law.specs.Sessions.SessionLaws.{front_of, made_as}
use Rattle.sl_trace.specs.Traces.{Setting, Submitted, record_of, same_place}
use Rattle.sl_trace.specs.declared.effects.Call.{Call}
use Rattle.sl_trace.specs.declared.effects.Spot.{Spot}
use Rattle.sl_words.proofs.CaseLaws.{none_some, one_value, some_value}
use Rattle.sl_words.proofs.WordLaws.{and_true}
use Rattle.std.proofs.Common.{ap, arith, inl, inr, refl, subst, sym, ◌∙◌}
use Rattle.std.proofs.lemmas.Bool.{and_from, cases_lt, eq-eqb, eqb-true}
use Rattle.std.proofs.lemmas.Slice.Eq.{bytes_eq-Decides}
use Rattle.std.specs.Prelude.{AllPairs, Bool, Contains, List, Option, Some, [], bytes_eq, false, filter, if◌then◌else◌, length, true, ℕ, ◌++◌, ◌<◌, ◌==◌, ◌∷◌, ◌≡◌, ◌≤◌, ◌⊎◌}

-- ---- what a place has held comes in order

-- The newer of these stand first.
abbrev pub Descends : List Landing → Type 0
Descends [] = Unit {0}
Descends (l ∷ ls) = ((x : Landing) → Contains ls x → x.step < l.step) × Descends ls

descends_of : (ls : List Landing) → AllPairs (λ newer older. (older.step < newer.step) × (older.moment ≤ newer.moment)) ls → Descends ls
descends_of [] all = tt
descends_of (l ∷ ls) all =
    let R : Landing → Landing → Type 0 = λ newer older. (older.step < newer.step) × (older.moment ≤ newer.moment) in
    ((λ x there. let i = placed_at ls x there in (head_pairs R l ls i.0 x all i.1).0), descends_of ls (tail_pairs R l ls all))

kept_by : (p : Landing → Bool) (l : Landing) (ls : List Landing) (b : Bool) → p l ≡ b → ((x : Landing) → Contains ls x → x.step < l.step) → Descends (filter p ls)
    → Descends (if b then l ∷ filter p ls else filter p ls)
kept_by p l ls false is first rest = rest
kept_by p l ls true is first rest = ((λ x there. first x (kept_inside p ls x there).0), rest)

descends_kept : (p : Landing → Bool) (ls : List Landing) → Descends ls → Descends (filter p ls)
descends_kept p [] h = tt
descends_kept p (l ∷ ls) h = kept_by p l ls (p l) refl h.0 (descends_kept p ls h.1)

pub descends_then : (ls : List Landing) (z : Landing) → Descends ls → ((x : Landing) → Contains ls x → z.step < x.step) → Descends (ls ++ z ∷ [])
descends_then [] z h above = ((λ x there. absurd (contains_none x there)), tt)
descends_then (l ∷ ls) z h above = (
  (λ x there.
      elim (contains_append ls (z ∷ []) x there) as (λ y. x.step < l.step) [
        | inl old ↦ h.0 x old
        | inr new ↦ elim (contains_cases z [] x new) as (λ y. x.step < l.step) [
          | inl here ↦ subst (λ (y : Landing). y.step < l.step) here (above l (contains_first l ls))
          | inr none ↦ absurd (contains_none x none)
        ]
      ]),
  descends_then ls z h.1 (λ x there. above x (contains_more l ls x there)),
)

order_by : (l : Landing) (ls : List Landing) (i j : ℕ) (x y : Landing) (a b : Bool) → (i == length ls) ≡ a → (j == length ls) ≡ b → ((z : Landing) → Contains ls z → z.step < l.step)
    → elim a as (λ z. Option Landing) [ true ↦ Some l | false ↦ numbered_landing ls i ] ≡ Some x
    → elim b as (λ z. Option Landing) [ true ↦ Some l | false ↦ numbered_landing ls j ] ≡ Some y → i < j
    → (numbered_landing ls i ≡ Some x → numbered_landing ls j ≡ Some y → x.step < y.step) → x.step < y.step
order_by l ls i j x y a true p q first at there lt rest =
    by a p at where
      by : (c : Bool) → (i == length ls) ≡ c → elim c as (λ z. Option Landing) [ true ↦ Some l | false ↦ numbered_landing ls i ] ≡ Some x → x.step < y.step
      by true same here = absurd (omega (arith, eqb-true i (length ls) same, eqb-true j (length ls) q, lt))
      by false other here = subst (λ (z : Landing). x.step < z.step) (some_value l y there) (first x (numbered_inside ls i x here))
order_by l ls i j x y true false p q first at there lt rest =
    let less : j < length ls = number_below ls j y there in
    absurd (omega (arith, eqb-true i (length ls) p, less, lt))
order_by l ls i j x y false false p q first at there lt rest = rest at there

-- Of two numbers the lesser came first.
pub numbers_order : (ls : List Landing) (i j : ℕ) (x y : Landing) → Descends ls → numbered_landing ls i ≡ Some x → numbered_landing ls j ≡ Some y → i < j → x.step < y.step
numbers_order [] i j x y h at there lt = absurd (none_some x at)
numbers_order (l ∷ ls) i j x y h at there lt =
    order_by l ls i j x y (i == length ls) (j == length ls) refl refl h.0 at there lt (λ p q. numbers_order ls i j x y h.1 p q lt)

number_by : (l : Landing) (ls : List Landing) (x : Landing) → (l ≡ x) ⊎ ((i : ℕ) × (numbered_landing ls i ≡ Some x)) → (i : ℕ) × (numbered_landing (l ∷ ls) i ≡ Some x)
number_by l ls x (inl here) = (length ls, newest_number l ls (length ls) refl ∙ ap (λ z. Some z) here)
number_by l ls x (inr old) = (old.0, number_stays (l ∷ []) ls old.0 x old.1)

-- Each has a number.
pub has_number : (ls : List Landing) (x : Landing) → Contains ls x → (i : ℕ) × (numbered_landing ls i ≡ Some x)
has_number [] x there = absurd (contains_none x there)
has_number (l ∷ ls) x there =
    number_by l ls x (elim (contains_cases l ls x there) as (λ z. (l ≡ x) ⊎ ((i : ℕ) × (numbered_landing ls i ≡ Some x))) [ inl here ↦ inl here | inr old ↦ inr (has_number ls x old) ])

-- Each landing came at a step above 0.
pub above_first : (p : Program) (h : Header) (xs : List Happening) → LawfulRun p h xs → (l : Landing) → Contains (world_at p h xs).landings l → 0 < l.step
above_first p h xs run l there = let k = landings_are_written p h xs run l there in let a = k.wrote.after.0 in omega (arith, a)

pub history_descends : (p : Program) (h : Header) (xs : List Happening) → LawfulRun p h xs → (path : List ℕ) (offset : ℕ) → Descends (history_of (world_at p h xs) path offset)
history_descends p h xs run path offset =
    let w : World = world_at p h xs in
    let test : Landing → Bool = λ l. same_place l.path l.offset path offset in
    descends_then (landed_at w path offset) (first_landing w path offset) (descends_kept test w.landings (descends_of w.landings (come_in_order p h xs run)))
    (λ x there. above_first p h xs run x (kept_inside test w.landings x there).0)

-- ---- the landing of a block that was answered ok

-- Where a block was sent to: its host's place.
block_place : (p : Program) (h : Header) (xs : List Happening) → LawfulRun p h xs → (world_at p h xs).layout.paired ≡ false → (r : ResourceLine) → Contains h.resources r → (k : ℕ) (x : Sent) → BlockSent (world_at p h xs) r k x
    → x.course.call.offset ≡ block_offset (world_at p h xs).layout r.offset k
block_place p h xs run plain r there k x b =
    let w : World = world_at p h xs in
    let o = owned p h xs run x b.sent in
    let st : Setting = o.trace.daemon.setting in
    let q : Submitted = o.trace.submitted_as in
    let d = made_of o in
    let law = call_law st o.trace.daemon.trace o.session q d o.trace.lawful o.its o.mine in
    let block = plain_block_sent p h xs run plain x b.sent b.block in
    let write : LawfulAreaWrite st (front_of d) o.session (made_as d) (BlockIs block.0) =
    (law.0.area.0.writes d.index q.call o.session d.call law.1 (BlockIs block.0) (ap (λ (c : Call). record_of c.op) o.trace.is.call ∙ block.1) refl).1 in
    let layout : st.layout ≡ w.layout = owner_layout p h xs run x o in
    let spot : spot_of_call st.layout (made_as d) ≡ spot_of_line r =
    ap (λ (g : Layout). spot_of_call g (made_as d)) layout ∙ spot_is p h xs run r there (made_as d) (ap (is_on w.layout (spot_of_line r)) o.trace.is.call ∙ b.on) in
    let id : o.session.id ≡ k = ap (λ a. a.id) (sym (holder_is w (sender_of x) (found_of o) (owner_found w x o))) ∙ b.host in
    ap (λ (c : Call). c.offset) (sym o.trace.is.call)
    ∙ sym (some_value (block_offset st.layout (spot_of_call st.layout (made_as d)).base o.session.id) q.call.offset write.placed)
    ∙ ap (λ (a : Spot). block_offset st.layout a.base o.session.id) spot ∙ ap (λ (g : Layout). block_offset g r.offset o.session.id) layout
    ∙ ap (λ n. block_offset w.layout r.offset n) id

-- Its landing.
pub record HasCome (w : World) (r : ResourceLine) (k : ℕ) (x : Sent) (s : Stamp) : Type 0 where
  pub landing : Landing
  pub at : LandedAt w r k x landing
  pub offset : landing.offset ≡ block_offset w.layout r.offset k
  pub early : landing.step < s.step

pub has_come : (p : Program) (h : Header) (xs : List Happening) → LawfulRun p h xs → (world_at p h xs).layout.paired ≡ false → (r : ResourceLine) → Contains h.resources r → (k : ℕ) (x : Sent) → BlockSent (world_at p h xs) r k x
    → x.course.done ≡ true → (s : Stamp) → x.course.answered ≡ Some s → HasCome (world_at p h xs) r k x s
has_come p h xs run plain r there k x b done s told =
    let w : World = world_at p h xs in
    let o = owned p h xs run x b.sent in
    let a : Machine = o.there.machine in
    let c : Course = x.course in
    let block = record_sent c b.block in
    let landed = done_writes_have_landed p h xs run x.machine a c o.there.at o.there.has done (write_is c.call.op block.0 block.1) in
    let l = landed_are_there p h xs run x.machine a c o.there.at o.there.has landed in
    let k' : HasWriter w l.0 = landings_are_written p h xs run l.0 l.1 in
    let y : Sent = record { machine = k'.machine; course = k'.wrote.course } in
    let same = some_value (name_of y) (name_of x) (ap (λ n. Some (k'.machine, n)) k'.wrote.number ∙ sym k'.named ∙ l.2) in
    let one : y ≡ x =
    one_sent p h xs run y x (there_sent w k'.machine k'.wrote.machine k'.wrote.course k'.wrote.at k'.wrote.has) b.sent (ap (λ (n : Name). n.0) same) (ap (λ (n : Name). n.1) same) in
    let course : k'.wrote.course ≡ c = ap (λ (z : Sent). z.course) one in
    let path : l.0.path ≡ r.path =
    sym k'.wrote.place.0 ∙ ap (λ (z : Course). z.call.path) course ∙ same_text c.call.path r.path (and_true (bytes_eq c.call.path r.path) (in_area w.layout r.offset c.call.offset) b.on).0 in
    let offset : l.0.offset ≡ block_offset w.layout r.offset k = sym k'.wrote.place.1 ∙ ap (λ (z : Course). z.call.offset) course ∙ block_place p h xs run plain r there k x b in
    record {
      landing = l.0;
      at = record { sent = b.sent; landed = l.1; place = (path, (0, offset ∙ sym (plain_place w.layout plain r.offset k 0))); writer = l.2 };
      offset = offset;
      early = (k'.wrote.before s (ap (λ (z : Course). z.answered) course ∙ told)).0;
    }

-- ---- what a later read shows

never_missed : (l s z t : ℕ) → l < s → s ≤ z → z < t → t < l → ⊥
never_missed l s z t p q u v = omega (arith, p, q, u, v)

above_zero : (a b : ℕ) → a < b → b ≡ 0 → ⊥
above_zero a b h e = omega (arith, h, e)

-- A landing after it is a block that was submitted later.
later_shown : (p : Program) (h : Header) (xs : List Happening) → LawfulRun p h xs → (world_at p h xs).layout.paired ≡ false → (r : ResourceLine) → Contains h.resources r → (k : ℕ) → is_host (world_at p h xs) k ≡ true → (x : Sent)
    → (l : Landing) → LandedAt (world_at p h xs) r k x l → (j : ℕ) (m : Landing)
    → numbered_landing (history_of (world_at p h xs) r.path (block_offset (world_at p h xs).layout r.offset k)) j ≡ Some m → l.step < m.step
    → ((y : Sent) → BlockSent (world_at p h xs) r k y → Follows (world_at p h xs) r k (sender_of x) (sender_of y)) → step_of x ≤ step_of_landing (world_at p h xs) m
later_shown p h xs run plain r there k host x l at j m numbered lt follow =
    let w : World = world_at p h xs in
    elim (stands_there p h xs run plain r there k host j m numbered) as (λ z. step_of x ≤ step_of_landing w m) [
      | inl first ↦ absurd (above_zero l.step m.step lt (ap (λ (y : Landing). y.step) first))
      | inr b ↦
          let its = in_history w r.path (block_offset w.layout r.offset k) m (numbered_inside (history_of w r.path (block_offset w.layout r.offset k)) j m numbered) in
          let landed : Contains w.landings m =
          elim its.2 as (λ z. Contains w.landings m) [ inl there ↦ there | inr first ↦ absurd (above_zero l.step m.step lt (ap (λ (y : Landing). y.step) first)) ] in
          let less : step_of x < step_of b.sent =
          in_order p h xs r run there k host x b.sent l m at (record {
            sent = b.there;
            landed = landed;
            place = (its.0, (0, its.1 ∙ sym (plain_place w.layout plain r.offset k 0)));
            writer = b.named;
          })
          (follow b.sent (record { sent = b.there; on = b.on; block = writes_is b.sent.course b.block b.writes; host = b.host })) lt in
          subst (λ n. step_of x ≤ n) (sym b.step) (less_is_most (step_of x) (step_of b.sent) less)
    ]

-- It is shown itself.
itself_shown : (p : Program) (h : Header) (xs : List Happening) → LawfulRun p h xs → (world_at p h xs).layout.paired ≡ false → (r : ResourceLine) → Contains h.resources r → (k : ℕ) → is_host (world_at p h xs) k ≡ true → (x : Sent)
    → (l : Landing) → LandedAt (world_at p h xs) r k x l → step_of_landing (world_at p h xs) l ≡ step_of x
itself_shown p h xs run plain r there k host x l at = let f = landed_block p h xs run plain r there k host x l at in f.0.step ∙ ap step_of f.1

-- A read of all blocks there.
pub record ReadSent (w : World) (r : ResourceLine) (z : Sent) : Type 0 where
  pub sent : Contains (all_sent w) z
  pub on : is_on w.layout (spot_of_line r) z.course.call ≡ true
  pub reads : reads_blocks z.course ≡ true

-- A read that is submitted once a block was answered ok shows that block's landing or that of one that was submitted later.
pub landing_is_newest : (p : Program) (h : Header) (xs : List Happening) → LawfulRun p h xs → (world_at p h xs).layout.paired ≡ false → (r : ResourceLine) → Contains h.resources r
    → (k : ℕ) → is_host (world_at p h xs) k ≡ true → (x : Sent) → BlockSent (world_at p h xs) r k x → x.course.done ≡ true → (s : Stamp) → x.course.answered ≡ Some s
    → (z : Sent) → ReadSent (world_at p h xs) r z → s.step ≤ step_of z → (m : Landing) → landing_shown (world_at p h xs) (spot_of_line r) z.course k ≡ Some m
    → ((y : Sent) → BlockSent (world_at p h xs) r k y → Follows (world_at p h xs) r k (sender_of x) (sender_of y)) → step_of x ≤ step_of_landing (world_at p h xs) m
landing_is_newest p h xs run plain r there k host x b done s told z read late m shows follow =
    let w : World = world_at p h xs in
    let o = owned p h xs run z read.sent in
    let g : List Landing = history_of w r.path (block_offset w.layout r.offset k) in
    let c = has_come p h xs run plain r there k x b done s told in
    let l : Landing = c.landing in
    let i : IsShownOf w r z k m = shown_of p h xs run r there z o read.on read.reads k host m shows in
    let inside : Contains (landed_at w r.path (block_offset w.layout r.offset k)) l =
    kept (λ (y : Landing). same_place y.path y.offset r.path (block_offset w.layout r.offset k)) w.landings l
    (and_from _ _ (eq-eqb l.offset (block_offset w.layout r.offset k) c.offset) ((bytes_eq-Decides l.path r.path).1 c.at.place.0)) c.at.landed in
    let n = has_number g l (contains_left (landed_at w r.path (block_offset w.layout r.offset k)) (first_landing w r.path (block_offset w.layout r.offset k) ∷ []) l inside) in
    elim (cases_lt i.sampling.index n.0) as (λ q. step_of x ≤ step_of_landing w m) [
      | inl missed ↦
          let path : z.course.call.path ≡ r.path = same_text z.course.call.path r.path (and_true (bytes_eq z.course.call.path r.path) (in_area w.layout r.offset z.course.call.offset) read.on).0 in
          let there_too : numbered_landing (history_of w z.course.call.path (sector_place w z.course (sector_number z.course k))) n.0 ≡ Some l =
          ap (λ q. numbered_landing (history_of w z.course.call.path q) n.0) (sector_is p h xs run r there z o read.on read.reads k host)
          ∙ ap (λ y. numbered_landing (history_of w y (block_offset w.layout r.offset k)) n.0) path ∙ n.1 in
          absurd (never_missed l.step s.step (step_of z) i.sampling.step c.early late i.sample.after.0 (i.sample.before_next n.0 l there_too missed).0)
      | inr seen ↦ elim (cases_lt n.0 i.sampling.index) as (λ q. step_of x ≤ step_of_landing w m) [
        | inl newer ↦
            later_shown p h xs run plain r there k host x l c.at i.sampling.index m i.place
            (numbers_order g n.0 i.sampling.index l m (history_descends p h xs run r.path (block_offset w.layout r.offset k)) n.1 i.place newer) follow
        | inr older ↦
            let index : n.0 ≡ i.sampling.index = omega (arith, seen, older) in
            let same : l ≡ m = one_value l m (numbered_landing g i.sampling.index) (subst (λ q. numbered_landing g q ≡ Some l) index n.1) i.place in
            equal_is_most (step_of x) (step_of_landing w m) (sym (itself_shown p h xs run plain r there k host x l c.at) ∙ ap (step_of_landing w) same)
      ]
    ]
