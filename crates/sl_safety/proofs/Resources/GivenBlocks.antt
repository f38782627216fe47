-- A read that gave the bytes of all blocks: in its trace, as a call of its machine, and how it gives the blocks.
use Rattle.sl_trace.specs.Traces.{Answered, Submitted, gave, is_answered_ok, is_ok_answer, new_call}
use Rattle.sl_words.specs.Words.{choose, some_is}
use Rattle.std.proofs.Common.{ap, inl, inr, refl, subst, sym, ◌∙◌}
use Rattle.std.specs.Prelude.{Bool, List, None, Option, Some, false, if◌then◌else◌, not, option_map, true, ℕ, ◌||◌, ◌≡◌, ◌⊎◌}
use Rattle.sl_area.specs.Pairs.{BlocksRead, blocks_of, needs_again, read_once}
use Rattle.sl_area.specs.AreaLayout.{blocks_part}
use Rattle.sl_safety.specs.Resources.SampledReads.{blocks_sampled, reads_again}
use Rattle.sl_run.specs.Worlds.{Course, Daemon, Stamp, World}
use Rattle.sl_run_law.specs.Course.CallStamps.{AnswersAgree, IsAnsweredAs, IsCourseOf}
use Rattle.sl_sector.specs.declared.sector.PairBlock.{PairBlock}
use Rattle.sl_trace.specs.Leases.{blocks_bytes, blocks_given, given_with, is_again, is_area_read, is_block_read, kept_before, read_given}
use Rattle.sl_words.proofs.CaseLaws.{none_some, some_value, true_is_false}
use Rattle.sl_words.proofs.WordLaws.{choose_some}
use Rattle.sl_words.proofs.Options.{mapped_value}
use Rattle.sl_sector.specs.declared.sector.Block.{Block}
use Rattle.sl_safety.specs.Resources.SentCalls.{reads_blocks, reads_enough}
use Rattle.sl_run_law.proofs.Place.TracesOnMachines.{answer_gave}
use Rattle.std.proofs.lemmas.Bool.{or_left}
use Rattle.sl_area.specs.AreaSizes.{Layout}
use Rattle.sl_trace.specs.declared.effects.Call.{Call}

-- ---- in its trace

pub record GaveBlocks (g : Layout) (m : Submitted) (bs : List ℕ) : Type 0 where
  pub bytes : List ℕ
  pub gave_is : gave m ≡ Some bytes
  pub reads : is_block_read m ≡ true
  pub ok : is_answered_ok m ≡ true
  pub same : bs ≡ (if is_area_read m then blocks_part g bytes else bytes)

gave_ok : (m : Submitted) (bytes : List ℕ) → gave m ≡ Some bytes → is_answered_ok m ≡ true
gave_ok m bytes told = let a = answer_gave m.answer bytes told in ap (some_is (λ (x : Answered). is_ok_answer x.answer)) a.1 ∙ ap is_ok_answer a.2

gave_by : (g : Layout) (m : Submitted) (bs : List ℕ) (o : Option (List ℕ)) (a : Bool) → gave m ≡ o → is_area_read m ≡ a
    → elim o as (λ z. Option (List ℕ)) [
      | None ↦ None
      | Some bytes ↦ elim a as (λ z. Option (List ℕ)) [ true ↦ Some (blocks_part g bytes) | false ↦ choose (is_block_read m) bytes ]
    ] ≡ Some bs → GaveBlocks g m bs
gave_by g m bs None a told area h = absurd (none_some bs h)
gave_by g m bs (Some bytes) true told area h =
    record {
      bytes = bytes;
      gave_is = told;
      reads = or_left _ _ (or_left _ _ area);
      ok = gave_ok m bytes told;
      same = sym (some_value (blocks_part g bytes) bs h) ∙ ap (λ b. if b then blocks_part g bytes else bytes) (sym area);
    }
gave_by g m bs (Some bytes) false told area h =
    let c = choose_some (is_block_read m) bytes bs h in
    record { bytes = bytes; gave_is = told; reads = c.0; ok = gave_ok m bytes told; same = sym c.1 ∙ ap (λ b. if b then blocks_part g bytes else bytes) (sym area) }

pub gave_blocks : (g : Layout) (m : Submitted) (bs : List ℕ) → blocks_bytes g m ≡ Some bs → GaveBlocks g m bs
gave_blocks g m bs h = gave_by g m bs (gave m) (is_area_read m) refl refl h

given_by : (g : Layout) (m : Submitted) (bytes : List ℕ) (b : Bool) → is_block_read m ≡ true
    → elim b as (λ z. Option (List ℕ)) [ true ↦ Some (blocks_part g bytes) | false ↦ choose (is_block_read m) bytes ] ≡ Some (if b then blocks_part g bytes else bytes)
given_by g m bytes true reads = refl
given_by g m bytes false reads = ap (λ b. choose b bytes) reads

pub gives_bytes : (g : Layout) (m : Submitted) (bytes : List ℕ) → gave m ≡ Some bytes → is_block_read m ≡ true
    → blocks_bytes g m ≡ Some (if is_area_read m then blocks_part g bytes else bytes)
gives_bytes g m bytes told reads =
    ap (λ o. elim o as (λ z. Option (List ℕ)) [
      | None ↦ None
      | Some bytes ↦ elim (is_area_read m) as (λ z. Option (List ℕ)) [ true ↦ Some (blocks_part g bytes) | false ↦ choose (is_block_read m) bytes ]
    ]) told ∙ given_by g m bytes (is_area_read m) reads

-- ---- as a call of its machine

pub heard_as : (d : Daemon) (c : Course) (o : Option Answered) (a : Answered) → AnswersAgree d c o → o ≡ Some a → IsAnsweredAs d c a
heard_as d c o a agree is = subst (λ z. AnswersAgree d c z) is agree

-- A call that gave the bytes of all blocks is a read of them that was answered ok.
pub record GaveRead (w : World) (c : Course) (bs : List ℕ) : Type 0 where
  pub reads : reads_blocks c ≡ true
  pub done : c.done ≡ true
  pub stamp : Stamp
  pub answered : c.answered ≡ Some stamp
  pub bytes : bs ≡ blocks_sampled w.layout c

pub gave_read : (w : World) (d : Daemon) (c : Course) (m : Submitted) → IsCourseOf d c m → d.setting.layout ≡ w.layout → (bs : List ℕ) → blocks_bytes d.setting.layout m ≡ Some bs → GaveRead w c bs
gave_read w d c m pair layout bs told =
    let g : Layout = d.setting.layout in
    let b = gave_blocks g m bs told in
    let u = answer_gave m.answer b.bytes b.gave_is in
    let a : IsAnsweredAs d c u.0 = heard_as d c m.answer u.0 pair.answers u.1 in
    record {
      reads = ap (λ (v : Call). is_block_read (new_call 0 0 v)) (sym pair.call) ∙ b.reads;
      done = a.done ∙ ap is_ok_answer u.2;
      stamp = a.stamp;
      answered = a.answered;
      bytes = b.same ∙ ap (λ v. if is_area_read m then blocks_part g v else v) (a.gives b.bytes u.2)
          ∙ ap (λ (v : Call). if is_area_read (new_call 0 0 v) then blocks_part g c.sampled else c.sampled) pair.call ∙ ap (λ (v : Layout). blocks_sampled v c) layout;
    }

-- The answer that a call was given ok.
pub record ToldOk (d : Daemon) (c : Course) (m : Submitted) : Type 0 where
  pub answer : Answered
  pub is : m.answer ≡ Some answer
  pub told : IsAnsweredAs d c answer
  pub ok : is_ok_answer answer.answer ≡ true

pub told_ok : (d : Daemon) (c : Course) (m : Submitted) → IsCourseOf d c m → (s : Stamp) → c.answered ≡ Some s → c.done ≡ true → ToldOk d c m
told_ok d c m pair s told done = by m.answer refl pair.answers
  where
    by : (o : Option Answered) → m.answer ≡ o → AnswersAgree d c o → ToldOk d c m
    by None is agree = absurd (none_some s (sym agree ∙ told))
    by (Some a) is agree = record { answer = a; is = is; told = agree; ok = sym agree.done ∙ done }

-- ---- what it gives of all blocks

-- How a call gives all blocks.
pub data GivenWays (g : Layout) (m : Submitted) (ms : List Submitted) (r : BlocksRead) : Type 0 where
  Alone : is_again m ≡ false → (bs : List ℕ) → blocks_bytes g m ≡ Some bs → needs_again g bs ≡ false → r ≡ read_once bs → GivenWays g m ms r
  Second : is_again m ≡ true → (bs : List ℕ) → blocks_bytes g m ≡ Some bs → (pairs : List (Option PairBlock)) → kept_before g ms ≡ Some pairs → r ≡ record { kept = pairs; last = bs } → GivenWays g m ms r

not_false : (b : Bool) → not b ≡ true → b ≡ false
not_false false h = refl
not_false true h = absurd (true_is_false (sym h))

ways_by : (g : Layout) (m : Submitted) (ms : List Submitted) (r : BlocksRead) (again : Bool) (kept : Option (List (Option PairBlock))) (bytes : Option (List ℕ)) → is_again m ≡ again
    → blocks_bytes g m ≡ bytes → kept_before g ms ≡ kept → given_with g again kept bytes ≡ Some r → GivenWays g m ms r
ways_by g m ms r again kept None second is before h = absurd (none_some r h)
ways_by g m ms r false kept (Some bs) second is before h =
    let c = choose_some (not (needs_again g bs)) (read_once bs) r h in Alone second bs is (not_false (needs_again g bs) c.0) (sym c.1)
ways_by g m ms r true None (Some bs) second is before h = absurd (none_some r h)
ways_by g m ms r true (Some pairs) (Some bs) second is before h = Second second bs is pairs before (sym (some_value (record { kept = pairs; last = bs }) r h))

pub given_ways : (g : Layout) (m : Submitted) (ms : List Submitted) (r : BlocksRead) → read_given g m ms ≡ Some r → GivenWays g m ms r
given_ways g m ms r h = ways_by g m ms r (is_again m) (kept_before g ms) (blocks_bytes g m) refl refl refl h

-- What gives blocks gave their bytes.
pub way_bytes : (g : Layout) (m : Submitted) (ms : List Submitted) (r : BlocksRead) → GivenWays g m ms r → (bs : List ℕ) × (blocks_bytes g m ≡ Some bs)
way_bytes g m ms r (Alone once bs told enough is) = (bs, told)
way_bytes g m ms r (Second again bs told pairs kept is) = (bs, told)

pub given_bytes : (g : Layout) (m : Submitted) (ms : List Submitted) (bs : List (Option Block)) → blocks_given g m ms ≡ Some bs → (bytes : List ℕ) × (blocks_bytes g m ≡ Some bytes)
given_bytes g m ms bs given =
    let r = mapped_value (blocks_of g) (read_given g m ms) bs given in way_bytes g m ms r.0 (given_ways g m ms r.0 r.1)

-- ---- enough

enough_by : (again needs : Bool) → (again ≡ true) ⊎ (needs ≡ false) → (again || not needs) ≡ true
enough_by true needs h = refl
enough_by false needs (inl h) = absurd (true_is_false (sym h))
enough_by false needs (inr h) = ap not h

way_enough : (w : World) (d : Daemon) (c : Course) (m : Submitted) → IsCourseOf d c m → d.setting.layout ≡ w.layout → (ms : List Submitted) (r : BlocksRead)
    → GivenWays d.setting.layout m ms r → (reads_again c ≡ true) ⊎ (needs_again w.layout (blocks_sampled w.layout c) ≡ false)
way_enough w d c m pair layout ms r (Alone once bs told enough is) =
    let b = gave_read w d c m pair layout bs told in
    inr (ap (needs_again w.layout) (sym b.bytes) ∙ ap (λ (g : Layout). needs_again g bs) (sym layout) ∙ enough)
way_enough w d c m pair layout ms r (Second again bs told pairs kept is) = inl (ap (λ (v : Call). is_again (new_call 0 0 v)) (sym pair.call) ∙ again)

-- A read that its trace has given blocks has sampled enough.
pub gives_enough : (w : World) (d : Daemon) (c : Course) (m : Submitted) → IsCourseOf d c m → d.setting.layout ≡ w.layout → (ms : List Submitted) (bs : List (Option Block))
    → blocks_given d.setting.layout m ms ≡ Some bs → reads_enough w.layout c ≡ true
gives_enough w d c m pair layout ms bs given =
    let r = mapped_value (blocks_of d.setting.layout) (read_given d.setting.layout m ms) bs given in
    enough_by (reads_again c) (needs_again w.layout (blocks_sampled w.layout c)) (way_enough w d c m pair layout ms r.0 (given_ways d.setting.layout m ms r.0 r.1))

-- One that is made once needs no second one then.
pub first_enough : (again needs : Bool) → (again || not needs) ≡ true → again ≡ false → needs ≡ false
first_enough true needs h once = absurd (true_is_false once)
first_enough false true h once = absurd (true_is_false (sym h))
first_enough false false h once = refl

-- ---- what gives blocks in its trace

given_some : (g : Layout) (m : Submitted) (ms : List Submitted) (bs : List ℕ) (again : Bool) (kept : Option (List (Option PairBlock))) → blocks_bytes g m ≡ Some bs
    → (again ≡ true → kept ≡ None → ⊥) → (again ≡ false → needs_again g bs ≡ false) → option_map (blocks_of g) (given_with g again kept (Some bs)) ≡ None → ⊥
given_some g m ms bs false kept told second first none =
    none_some (blocks_of g (read_once bs)) (sym none ∙ ap (λ b. option_map (blocks_of g) (choose (not b) (read_once bs))) (first refl))
given_some g m ms bs true None told second first none = second refl refl
given_some g m ms bs true (Some pairs) told second first none = none_some (blocks_of g (record { kept = pairs; last = bs })) (sym none)

-- A read that gave the bytes of all blocks gives them, where it is a second one and its first one is there, or needs none.
pub gives_some : (g : Layout) (m : Submitted) (ms : List Submitted) (bs : List ℕ) → blocks_bytes g m ≡ Some bs → (is_again m ≡ true → kept_before g ms ≡ None → ⊥)
    → (is_again m ≡ false → needs_again g bs ≡ false) → blocks_given g m ms ≡ None → ⊥
gives_some g m ms bs told second first none =
    given_some g m ms bs (is_again m) (kept_before g ms) told second first (ap (λ o. option_map (blocks_of g) (given_with g (is_again m) (kept_before g ms) o)) (sym told) ∙ none)
