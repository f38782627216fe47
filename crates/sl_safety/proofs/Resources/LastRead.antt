-- The last read of blocks before a call, in its trace and among its machine's calls.
use Rattle.sl_run_law.proofs.Leases.ComingLaws.{none_there}
use Rattle.sl_area.specs.AreaSizes.{Layout}
use Rattle.sl_trace.specs.Traces.{Answered, Submitted, bytes_given, gave, new_call}
use Rattle.sl_trace.specs.declared.effects.Call.{Call}
use Rattle.sl_run_law.specs.Leases.CallFronts.{Aged, AllAged}
use Rattle.sl_words.proofs.CaseLaws.{one_value, true_is_false}
use Rattle.sl_words.specs.Words.{choose}
use Rattle.sl_words.proofs.Lists.{contains_cases, contains_first, contains_more}
use Rattle.std.proofs.Common.{ap, arith, inl, inr, refl, subst, sym, ◌∙◌}
use Rattle.std.specs.Prelude.{Bool, Contains, List, None, Option, Some, [], cond, false, option_and_then, option_map, true, ℕ, ◌++◌, ◌+◌, ◌-◌, ◌<◌, ◌||◌, ◌∷◌, ◌≡◌, ◌≤◌, ◌⊎◌}
use Rattle.sl_area.specs.Pairs.{blocks_of, pairs_kept}
use Rattle.sl_area.specs.AreaLayout.{blocks_part}
use Rattle.sl_run_law.specs.Course.CallStamps.{IsCourseOf, Pairwise}
use Rattle.sl_trace.specs.Leases.{Read_before_block, block_of_host, blocks_bytes, blocks_given, given_with, is_again, is_area_read, is_at, is_block_read, is_phase_read, kept_before, last_blocks}
use Rattle.sl_sector.specs.declared.sector.Block.{Block}
use Rattle.sl_run.specs.Worlds.{Course, Daemon}
use Rattle.sl_safety.proofs.Resources.LastBlock.{kept_calls}
use Rattle.sl_safety.proofs.Resources.NewestCalls.{calls_below}
use Rattle.sl_words.proofs.Numbers.{below_next, refl_le}
use Rattle.sl_run_law.specs.Moment.Orders.{CallsFall}
use Rattle.std.proofs.lemmas.List.{append_assoc}

-- ---- what a read gave by then

-- Each read of blocks was answered before entry n.
abbrev pub AnsweredBefore : ℕ → List Submitted → Type 0
AnsweredBefore n ms = (q : Submitted) → Contains ms q → is_block_read q ≡ true → (a : Answered) × (q.answer ≡ Some a) × (a.at < n)

no_longer : (n a b : ℕ) → a < n → n ≤ b → b ≡ a → ⊥
no_longer n a b h i e = omega (arith, h, i, e)

answer_same : (n : ℕ) (was is : Submitted) (a : Answered) → Aged n was is → is.answer ≡ Some a → a.at < n → is.answer ≡ was.answer
answer_same n was is a h told early = by h.answer
  where
    by : (is.answer ≡ was.answer) ⊎ ((was.answer ≡ None) × (b : Answered) × (is.answer ≡ Some b) × (n ≤ b.at)) → is.answer ≡ was.answer
    by (inl same) = same
    by (inr late) =
        absurd (no_longer n a.at late.1.at early late.3 (ap (λ (y : Answered). y.at) (one_value late.1 a is.answer late.2 told)))

abbrev bytes_by : Layout → Option (List ℕ) → Bool → Bool → Option (List ℕ)
bytes_by g o area blocks =
    elim o as (λ z. Option (List ℕ)) [
      | None ↦ None
      | Some bytes ↦ elim area as (λ z. Option (List ℕ)) [ true ↦ Some (blocks_part g bytes) | false ↦ choose blocks bytes ]
    ]

no_bytes : (g : Layout) (o : Option (List ℕ)) → bytes_by g o false false ≡ None
no_bytes g None = refl
no_bytes g (Some bytes) = refl

neither : (a b c : Bool) → (a || b || c) ≡ false → a ≡ false
neither true b c h = absurd (true_is_false h)
neither false b c h = refl

bytes_none : (g : Layout) (m : Submitted) → is_block_read m ≡ false → blocks_bytes g m ≡ None
bytes_none g m other =
    ap (λ a. bytes_by g (gave m) a (is_block_read m)) (neither (is_area_read m) (is_phase_read m) (is_at Read_before_block m) other)
    ∙ ap (λ b. bytes_by g (gave m) false b) other ∙ no_bytes g (gave m)

bytes_same_by : (g : Layout) (n : ℕ) (was is : Submitted) → Aged n was is → (is_block_read is ≡ true → (a : Answered) × (is.answer ≡ Some a) × (a.at < n)) → (b : Bool)
    → is_block_read is ≡ b → blocks_bytes g was ≡ blocks_bytes g is
bytes_same_by g n was is h told true reads =
    let a = told reads in
    ap (λ (c : Call). bytes_by g (gave was) (is_area_read (new_call 0 0 c)) (is_block_read (new_call 0 0 c))) (sym h.call)
    ∙ ap (λ o. bytes_by g (option_and_then (λ (y : Answered). bytes_given y.answer) o) (is_area_read is) (is_block_read is)) (sym (answer_same n was is a.0 h a.1 a.2))
bytes_same_by g n was is h told false other =
    bytes_none g was (ap (λ (c : Call). is_block_read (new_call 0 0 c)) (sym h.call) ∙ other) ∙ sym (bytes_none g is other)

bytes_same : (g : Layout) (n : ℕ) (was is : Submitted) → Aged n was is → (is_block_read is ≡ true → (a : Answered) × (is.answer ≡ Some a) × (a.at < n))
    → blocks_bytes g was ≡ blocks_bytes g is
bytes_same g n was is h told = bytes_same_by g n was is h told (is_block_read is) refl

kept_same : (g : Layout) (n : ℕ) (xs ys : List Submitted) → AllAged n xs ys → AnsweredBefore n ys → kept_before g xs ≡ kept_before g ys
kept_same g n [] [] h told = refl
kept_same g n [] (y ∷ ys) h told = absurd h
kept_same g n (x ∷ xs) [] h told = absurd h
kept_same g n (x ∷ xs) (y ∷ ys) h told = ap (λ o. option_map (pairs_kept g) o) (bytes_same g n x y h.0 (told y (contains_first y ys)))

given_same : (g : Layout) (n : ℕ) (was is : Submitted) (xs ys : List Submitted) → Aged n was is → AllAged n xs ys → AnsweredBefore n (is ∷ ys)
    → blocks_given g was xs ≡ blocks_given g is ys
given_same g n was is xs ys h rest told =
    ap (λ (c : Call). option_map (blocks_of g) (given_with g (is_again (new_call 0 0 c)) (kept_before g xs) (blocks_bytes g was))) (sym h.call)
    ∙ ap (λ o. option_map (blocks_of g) (given_with g (is_again is) o (blocks_bytes g was))) (kept_same g n xs ys rest (λ q has. told q (contains_more is ys q has)))
    ∙ ap (λ o. option_map (blocks_of g) (given_with g (is_again is) (kept_before g ys) o)) (bytes_same g n was is h (told is (contains_first is ys)))

-- What was last read at a front is what is last read of the same calls as they stand now, where each read was answered by then.
pub last_same : (g : Layout) (n : ℕ) (xs ys : List Submitted) → AllAged n xs ys → AnsweredBefore n ys → last_blocks g xs ≡ last_blocks g ys
last_same g n [] [] h told = refl
last_same g n [] (y ∷ ys) h told = absurd h
last_same g n (x ∷ xs) [] h told = absurd h
last_same g n (x ∷ xs) (y ∷ ys) h told =
    ap (λ o. elim o as (λ z. List (Option Block)) [ Some bs ↦ bs | None ↦ last_blocks g xs ]) (given_same g n x y xs ys h.0 h.1 told)
    ∙ ap (λ l. elim (blocks_given g y ys) as (λ z. List (Option Block)) [ Some bs ↦ bs | None ↦ l ]) (last_same g n xs ys h.1 (λ q has. told q (contains_more y ys q has)))

-- ---- the last one

-- A call that gives blocks wherever it stands in the trace.
abbrev pub Gives : Layout → Daemon → (Call → Bool) → List Submitted → Course → Type 0
Gives g d T whole e =
    (newer older : List Submitted) (is : Submitted) → whole ≡ newer ++ is ∷ older → IsCourseOf d e is → blocks_given g is (kept_calls T older) ≡ None → ⊥

-- The last call that gave blocks.
pub record LastRead (g : Layout) (d : Daemon) (T : Call → Bool) (whole : List Submitted) (cs : List Course) (bs : List (Option Block)) : Type 0 where
  pub course : Course
  pub has : Contains cs course
  pub told : Submitted
  pub newer : List Submitted
  pub older : List Submitted
  pub split : whole ≡ newer ++ told ∷ older
  pub pair : IsCourseOf d course told
  pub passes : T course.call ≡ true
  pub given : blocks_given g told (kept_calls T older) ≡ Some bs
  pub newest : (e : Course) → Contains cs e → T e.call ≡ true → Gives g d T whole e → e.made.step ≤ course.made.step

one_more : (g : Layout) (d : Daemon) (T : Call → Bool) (whole : List Submitted) (c : Course) (cs : List Course) (bs : List (Option Block))
    → (T c.call ≡ true → Gives g d T whole c → ⊥) → LastRead g d T whole cs bs → LastRead g d T whole (c ∷ cs) bs
one_more g d T whole c cs bs never l =
    record {
      course = l.course;
      has = contains_more c cs l.course l.has;
      told = l.told;
      newer = l.newer;
      older = l.older;
      split = l.split;
      pair = l.pair;
      passes = l.passes;
      given = l.given;
      newest = λ e has passes gives. elim (contains_cases c cs e has) as (λ z. e.made.step ≤ l.course.made.step) [
        | inl same ↦ absurd (never (ap (λ (x : Course). T x.call) same ∙ passes) (subst (λ (x : Course). Gives g d T whole x) (sym same) gives))
        | inr more ↦ l.newest e more passes gives
      ];
    }

gave_by : (g : Layout) (d : Daemon) (T : Call → Bool) (whole newer : List Submitted) (c : Course) (cs : List Course) (m : Submitted) (ms : List Submitted) (rest bs : List (Option Block))
    (o : Option (List (Option Block))) → whole ≡ newer ++ m ∷ ms → blocks_given g m (kept_calls T ms) ≡ o → T c.call ≡ true → IsCourseOf d c m → CallsFall (c.made.step + 1) cs
    → elim o as (λ z. List (Option Block)) [ Some x ↦ x | None ↦ rest ] ≡ bs → (rest ≡ bs → LastRead g d T whole cs bs) → LastRead g d T whole (c ∷ cs) bs
gave_by g d T whole newer c cs m ms rest bs None split gives passes pair fall found later =
    one_more g d T whole c cs bs (λ p k. k newer ms m split pair gives) (later found)
gave_by g d T whole newer c cs m ms rest bs (Some x) split gives passes pair fall found later =
    record {
      course = c;
      has = contains_first c cs;
      told = m;
      newer = newer;
      older = ms;
      split = split;
      pair = pair;
      passes = passes;
      given = gives ∙ ap (λ y. Some y) found;
      newest = λ e has p k. elim (contains_cases c cs e has) as (λ z. e.made.step ≤ c.made.step) [
        | inl same ↦ subst (λ (y : Course). y.made.step ≤ c.made.step) same (refl_le c.made.step)
        | inr more ↦ below_next e.made.step c.made.step (calls_below (c.made.step + 1) cs e fall more)
      ];
    }

last_by : (g : Layout) (d : Daemon) (T : Call → Bool) (whole newer : List Submitted) (c : Course) (cs : List Course) (m : Submitted) (ms : List Submitted) (bs : List (Option Block)) (t : Bool)
    → whole ≡ newer ++ m ∷ ms → T c.call ≡ t → IsCourseOf d c m → CallsFall (c.made.step + 1) cs → last_blocks g (cond t (m ∷ kept_calls T ms) (kept_calls T ms)) ≡ bs
    → (last_blocks g (kept_calls T ms) ≡ bs → LastRead g d T whole cs bs) → LastRead g d T whole (c ∷ cs) bs
last_by g d T whole newer c cs m ms bs false split test pair fall found later =
    one_more g d T whole c cs bs (λ p k. true_is_false (sym p ∙ test)) (later found)
last_by g d T whole newer c cs m ms bs true split test pair fall found later =
    gave_by g d T whole newer c cs m ms (last_blocks g (kept_calls T ms)) bs (blocks_given g m (kept_calls T ms)) split refl test pair fall found later

-- What is last read, where it has a block.
pub last_read : (g : Layout) (d : Daemon) (T : Call → Bool) (k : ℕ) (cs : List Course) (whole newer ms : List Submitted) (bs : List (Option Block)) (host : ℕ) (own : Block)
    → whole ≡ newer ++ ms → Pairwise (IsCourseOf d) cs ms → CallsFall k cs → last_blocks g (kept_calls T ms) ≡ bs → block_of_host bs host ≡ Some own → LastRead g d T whole cs bs
last_read g d T k [] whole newer [] bs host own split pairs fall found block =
    absurd (none_there own (host - 1) (subst (λ l. block_of_host l host ≡ Some own) (sym found) block))
last_read g d T k (c ∷ cs) whole newer [] bs host own split pairs fall found block = absurd pairs
last_read g d T k [] whole newer (m ∷ ms) bs host own split pairs fall found block = absurd pairs
last_read g d T k (c ∷ cs) whole newer (m ∷ ms) bs host own split pairs fall found block =
    last_by g d T whole newer c cs m ms bs (T c.call) split refl pairs.0 fall.2
    (ap (λ y. last_blocks g (cond (T y) (m ∷ kept_calls T ms) (kept_calls T ms))) (sym pairs.0.call) ∙ found)
    (λ f. last_read g d T (c.made.step + 1) cs whole (newer ++ m ∷ []) ms bs host own (split ∙ sym (append_assoc newer (m ∷ []) ms)) pairs.1 fall.2 f block)
