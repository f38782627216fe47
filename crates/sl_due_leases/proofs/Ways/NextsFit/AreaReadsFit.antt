-- What a lease has heard of a read, and that what is decided after a read of the area fits.
use Rattle.sl_due_facts.proofs.Acts.Pairs.DecodedRecords.{spelled_leader}
use Rattle.sl_area.specs.AreaSizes.{Layout}
use Rattle.sl_area.specs.Pairs.{BlocksRead, blocks_of, pairs_of}
use Rattle.sl_area.specs.TornLeader.{greatest_lver, leader_made, leader_read}
use Rattle.sl_area.specs.AreaRecords.{fresh_leader}
use Rattle.sl_area.specs.AreaLayout.{leader_of}
use Rattle.sl_due_facts.specs.Facts.WayFacts.{CallWay, IsVerified, Ways}
use Rattle.sl_due_leases.proofs.Ways.GivenReads.{area_by, blocks_heard, given_heard, leader_heard}
use Rattle.sl_due_leases.proofs.Ways.WaysAreLawful.BallotsBegin.{MayBegin, begins_after_read, none_torn}
use Rattle.sl_due_leases.proofs.Ways.NextsFit.SettlingsFit.{begin_is}
use Rattle.sl_due_leases.proofs.Ways.WayStages.{is_at_in}
use Rattle.sl_due_leases.specs.Ways.Nexts.{IsHeard, Moment, NextIs, calls_at, context_at, known_at, place_at}
use Rattle.sl_words.proofs.Lists.{contains_first}
use Rattle.sl_run.specs.LawfulBlock.{AreaRead}
use Rattle.sl_sector.specs.declared.sector.Block.{Block}
use Rattle.sl_sector.specs.declared.sector.Leader.{Leader}
use Rattle.sl_sector.specs.declared.sector.PairBlock.{PairBlock}
use Rattle.sl_trace.specs.LeaseDecisions.{area_next, asked_again, begin_or_refuse, first_step, heard, named_area_next, part_read, read_of_step, whole_area_next}
use Rattle.sl_trace.specs.Leases.{Area_read, Read_before_free, first_kept, instance_for, is_leader_of, known, leader_given, name_sought, own_block, read_given, verified_by}
use Rattle.sl_trace.specs.Traces.{Answered, bytes_given, gave}
use Rattle.sl_trace.specs.declared.effects.LeaseStep.{LeaseStep}
use Rattle.sl_trace.specs.declared.effects.Purpose.TheVariants.{Lease}
use Rattle.sl_trace.specs.declared.input.Answer.TheVariants.{Read}
use Rattle.sl_trace.specs.declared.input.Answer.{Answer}
use Rattle.sl_trace.specs.declared.lease.Aim.{Aim}
use Rattle.sl_trace.specs.declared.lease.Instance.TheVariants.{Begins, HeldAlready}
use Rattle.sl_trace.specs.declared.lease.Instance.{Instance}
use Rattle.sl_trace.specs.declared.lease.LeaseNext.TheVariants.{AnswerJob, Nothing}
use Rattle.sl_trace.specs.declared.lease.LeaseNext.{LeaseNext}
use Rattle.sl_trace.specs.declared.reply.Reply.TheVariants.{TornBlock, TornLeader, WrongArea}
use Rattle.sl_words.proofs.CaseLaws.{none_some}
use Rattle.sl_words.proofs.WordLaws.{choose_some}
use Rattle.sl_words.specs.Words.{choose, present}
use Rattle.std.proofs.Common.{ap, refl, subst, sym, ◌∙◌}
use Rattle.std.specs.Option.{option_map_or}
use Rattle.std.specs.Prelude.{Bool, Contains, List, None, Option, Some, [], false, find, is_none, is_some, nat_lt, option_and_then, position, true, ℕ, ◌+◌, ◌==◌, ◌||◌, ◌≡◌}

-- ---- what was heard of a read

-- What a read that was heard gave.
pub heard_gave : (x : Moment) (step : LeaseStep) (aim : Aim) (bytes : List ℕ) → (h : IsHeard x step aim (Read bytes)) → gave h.call ≡ Some bytes
heard_gave x step aim bytes h = ap (λ o. option_and_then (λ (a : Answered). bytes_given a.answer) o) h.answered.0 ∙ ap (λ z. bytes_given z) h.answered.1

pub heard_inside : (x : Moment) (step : LeaseStep) (aim : Aim) (answer : Answer) → (h : IsHeard x step aim answer) → Contains (calls_at x) h.call
heard_inside x step aim answer h = subst (λ xs. Contains xs h.call) (sym h.newest) (contains_first h.call h.rest)

pub heard_call_way : (x : Moment) (step : LeaseStep) (aim : Aim) (answer : Answer) → (h : IsHeard x step aim answer) → CallWay (context_at x) h.call h.rest × Ways (context_at x) h.rest
heard_call_way x step aim answer h = subst (λ xs. Ways (context_at x) xs) h.newest h.ways

-- All blocks that it has heard are what its read gave, once or with the first answer.
pub heard_given : (x : Moment) (made : LeaseStep) (aim : Aim) (bytes : List ℕ) → (h : IsHeard x made aim (Read bytes)) → is_some (read_of_step (first_step made)) ≡ true → asked_again x.setting.layout bytes made ≡ None
    → read_given x.setting.layout h.call h.rest ≡ Some (heard x.setting.layout (known_at x) bytes made)
unfolding known
heard_given x made aim bytes h reads once =
    given_heard (context_at x) h.call h.rest x.work made bytes (heard_call_way x made aim (Read bytes) h).0 h.its (heard_gave x made aim bytes h) reads once
    ∙ ap (λ xs. let o : Option BlocksRead = Some (record { kept = first_kept x.setting.layout xs; last = part_read x.setting.layout bytes (first_step made) }) in o) (sym h.newest)

-- ---- leaders

made_unused : (g : Layout) (ps : List PairBlock) (l : Leader) → leader_made g ps ≡ Some l → l.held ≡ false
made_unused g ps l is = by (find (λ (p : PairBlock). p.block.lver == greatest_lver ps) ps) is where
  by : (o : Option PairBlock) → option_and_then (λ p. choose (nat_lt 0 (greatest_lver ps)) (fresh_leader g p.lockspace p.resource)) o ≡ Some l → l.held ≡ false
  by None at = absurd (none_some l at)
  by (Some p) at = ap (λ (z : Leader). z.held) (sym ((choose_some (nat_lt 0 (greatest_lver ps)) (fresh_leader g p.lockspace p.resource) l at).1))

-- A leader that a read gives and that was never held is free: it keeps its rules, or it was made for a torn one.
pub leader_unused : (g : Layout) (bytes : List ℕ) (r : BlocksRead) (l : Leader) → leader_read g bytes r ≡ Some l → l.lver ≡ 0 → l.held ≡ false
leader_unused g bytes r l is = by g.paired (leader_of g bytes) refl is where
  spelled : leader_of g bytes ≡ Some l → l.lver ≡ 0 → l.held ≡ false
  spelled at = (spelled_leader g bytes l at).unused

  by : (q : Bool) (o : Option Leader) → leader_of g bytes ≡ o
      → elim q as (λ z. Option Leader) [ false ↦ o | true ↦ elim o as (λ z. Option Leader) [ Some k ↦ Some k | None ↦ leader_made g (present (pairs_of g r)) ] ] ≡ Some l → l.lver ≡ 0 → l.held ≡ false
  by false o found at = spelled (found ∙ at)
  by true (Some k) found at = spelled (found ∙ at)
  by true None found at = λ zero. made_unused g (present (pairs_of g r)) l at

-- ---- a read of the area

-- Such a read, with all blocks that it gave.
pub record AreaHeard (x : Moment) (aim : Aim) (name bytes : List ℕ) (r : BlocksRead) : Type 0 where
  pub made : LeaseStep
  pub heard : IsHeard x made aim (Read bytes)
  pub sought : name_sought (Lease x.work made) ≡ Some name
  pub area : (is_at_in Area_read (Lease x.work made) || is_at_in Read_before_free (Lease x.work made)) ≡ true
  pub given : read_given x.setting.layout heard.call heard.rest ≡ Some r

leads : (x : Moment) (aim : Aim) (name bytes : List ℕ) (r : BlocksRead) → (h : AreaHeard x aim name bytes r) → leader_given x.setting.layout h.heard.call h.heard.rest ≡ leader_read x.setting.layout bytes r
leads x aim name bytes r h =
    leader_heard x.setting.layout h.heard.call h.heard.rest r bytes h.given (heard_gave x h.made aim bytes h.heard) (area_by h.heard.call x.work h.made h.heard.its h.area)

-- The name that it verifies.
verifies : (x : Moment) (aim : Aim) (name bytes : List ℕ) (r : BlocksRead) → (h : AreaHeard x aim name bytes r) → (l : Leader) → leader_read x.setting.layout bytes r ≡ Some l
    → is_leader_of x.setting.layout x.session.lockspace name l ≡ true → verified_by x.setting.layout x.session.lockspace h.heard.call h.heard.rest ≡ Some name
verifies x aim name bytes r h l spelled named =
    ap (λ o. elim o as (λ z. Option (List ℕ)) [
      | None ↦ None
      | Some n ↦ elim (leader_given x.setting.layout h.heard.call h.heard.rest) as (λ z. Option (List ℕ)) [ None ↦ None | Some k ↦ choose (is_leader_of x.setting.layout x.session.lockspace n k) n ]
    ]) (ap (λ p. name_sought p) h.heard.its ∙ h.sought)
    ∙ (ap (λ o. elim o as (λ z. Option (List ℕ)) [ None ↦ None | Some k ↦ choose (is_leader_of x.setting.layout x.session.lockspace name k) name ]) (leads x aim name bytes r h ∙ spelled)
    ∙ ap (λ b. choose b name) named)

-- A read in which all spells and the names are right.
record RightRead (x : Moment) (blocks : List (Option Block)) (l : Leader) : Type 0 where
  read : AreaRead x.setting x.trace x.session x.at
  same : (read.blocks ≡ blocks) × (read.leader ≡ l)
  unused : l.lver ≡ 0 → l.held ≡ false
  named : IsVerified (context_at x) (calls_at x)

begins : (x : Moment) (aim : Aim) (blocks : List (Option Block)) (l : Leader) → RightRead x blocks l → (own : Block) → own_block x.setting.layout x.session.id (calls_at x) ≡ Some own → (i : Instance)
    → instance_for (known_at x) l own blocks ≡ i → NextIs x (begin_or_refuse (place_at x) (known_at x) aim i)
begins x aim blocks l r own is (HeldAlready lver owner) found = refl
begins x aim blocks l r own is (Begins n) found =
    let a : AreaRead x.setting x.trace x.session x.at = r.read in
    let found_there : instance_for (known_at x) a.leader own a.blocks ≡ Begins n =
    ap (λ k. instance_for (known_at x) k own a.blocks) r.same.1 ∙ (ap (λ bs. instance_for (known_at x) l own bs) r.same.0 ∙ found)
    in
    let unused : a.leader.lver ≡ 0 → a.leader.held ≡ false = subst (λ (k : Leader). k.lver ≡ 0 → k.held ≡ false) (sym r.same.1) r.unused in
    let may : MayBegin x.setting x.trace x.session x.at n own = begins_after_read x.setting x.trace x.session x.at a unused own is n found_there in
    begin_is x aim n own may r.named

by_own : (x : Moment) (aim : Aim) (blocks : List (Option Block)) (l : Leader) → RightRead x blocks l → (o : Option Block) → own_block x.setting.layout x.session.id (calls_at x) ≡ o
    → NextIs x (option_map_or (λ own. begin_or_refuse (place_at x) (known_at x) aim (instance_for (known_at x) l own blocks)) o Nothing)
by_own x aim blocks l r None is = tt
by_own x aim blocks l r (Some own) is = begins x aim blocks l r own is (instance_for (known_at x) l own blocks) refl

whole_is : (x : Moment) (aim : Aim) (blocks : List (Option Block)) (l : Leader) → RightRead x blocks l → NextIs x (whole_area_next (place_at x) (known_at x) aim l blocks)
unfolding known
whole_is x aim blocks l r = by_own x aim blocks l r (own_block x.setting.layout x.session.id (calls_at x)) refl

by_torn : (x : Moment) (aim : Aim) (blocks : List (Option Block)) (l : Leader) → (position is_none blocks ≡ None → RightRead x blocks l) → (o : Option ℕ)
    → position is_none blocks ≡ o → NextIs x (elim o as (λ z. LeaseNext) [ Some i ↦ AnswerJob (TornBlock (i + 1)) | None ↦ whole_area_next (place_at x) (known_at x) aim l blocks ])
by_torn x aim blocks l r (Some i) is = refl
by_torn x aim blocks l r None is = whole_is x aim blocks l (r is)

by_name : (x : Moment) (aim : Aim) (blocks : List (Option Block)) (l : Leader) (name : List ℕ) → (is_leader_of x.setting.layout x.session.lockspace name l ≡ true → position is_none blocks ≡ None → RightRead x blocks l)
    → (b : Bool) → is_leader_of x.setting.layout x.session.lockspace name l ≡ b
    → NextIs x (elim b as (λ z. LeaseNext) [ false ↦ AnswerJob (WrongArea l.lockspace l.resource l.num_hosts) | true ↦ named_area_next (place_at x) (known_at x) aim l blocks ])
by_name x aim blocks l name r false is = refl
by_name x aim blocks l name r true is = by_torn x aim blocks l (r is) (position is_none blocks) refl

by_leader : (x : Moment) (aim : Aim) (name bytes : List ℕ) (q : BlocksRead)
    → ((l : Leader) → leader_read x.setting.layout bytes q ≡ Some l → is_leader_of x.setting.layout x.session.lockspace name l ≡ true → position is_none (blocks_of x.setting.layout q) ≡ None
    → RightRead x (blocks_of x.setting.layout q) l)
    → (o : Option Leader) → leader_read x.setting.layout bytes q ≡ o
    → NextIs x (elim o as (λ z. LeaseNext) [
      | None ↦ AnswerJob TornLeader
      | Some l ↦ elim (is_leader_of x.setting.layout x.session.lockspace name l) as (λ z. LeaseNext) [
        | false ↦ AnswerJob (WrongArea l.lockspace l.resource l.num_hosts)
        | true ↦ named_area_next (place_at x) (known_at x) aim l (blocks_of x.setting.layout q)
      ]
    ])
by_leader x aim name bytes q r None is = refl
by_leader x aim name bytes q r (Some l) is = by_name x aim (blocks_of x.setting.layout q) l name (r l is) (is_leader_of x.setting.layout x.session.lockspace name l) refl

pub area_is : (x : Moment) (aim : Aim) (name bytes : List ℕ) (r : BlocksRead) → AreaHeard x aim name bytes r
    → NextIs x (area_next (place_at x) (known_at x) aim name (leader_read x.setting.layout bytes r) (blocks_of x.setting.layout r))
unfolding area_next
area_is x aim name bytes r h =
    by_leader x aim name bytes r (λ l spelled named whole. record {
      read = record {
        read = h.heard.call;
        blocks = blocks_of x.setting.layout r;
        leader = l;
        resource = name;
        of_lease = (heard_inside x h.made aim (Read bytes) h.heard, area_by h.heard.call x.work h.made h.heard.its h.area);
        after = [];
        before = h.heard.rest;
        split = h.heard.newest;
        gives = blocks_heard x.setting.layout h.heard.call h.heard.rest r h.given;
        spells = leads x aim name bytes r h ∙ spelled;
        names = named;
        whole = none_torn (blocks_of x.setting.layout r) whole;
      };
      same = (refl, refl);
      unused = leader_unused x.setting.layout bytes r l spelled;
      named = record {
        read = h.heard.call;
        name = name;
        of_lease = heard_inside x h.made aim (Read bytes) h.heard;
        newer = [];
        before = h.heard.rest;
        split = h.heard.newest;
        verified = verifies x aim name bytes r h l spelled named;
      };
    }) (leader_read x.setting.layout bytes r) refl
