-- What stays of calls as they age.
use Rattle.sl_area.specs.AreaSizes.{Layout}
use Rattle.sl_area.specs.Pairs.{BlocksRead, blocks_of, pairs_kept}
use Rattle.sl_run.specs.LawfulBlock.{FirstAfter, ReadAfter}
use Rattle.sl_run_law.specs.Leases.CallFronts.{Aged, AllAged}
use Rattle.sl_run_law.specs.Leases.Ways.{FoundIn, lease_among}
use Rattle.sl_trace.specs.Leases.{StepKind, block_submitted, block_written, blocks_bytes, blocks_given, given_with, is_again, is_at, is_lease_call, is_on, kept_before, read_given}
use Rattle.sl_sector.specs.declared.sector.Block.{Block}
use Rattle.sl_sector.specs.declared.sector.PairBlock.{PairBlock}
use Rattle.sl_trace.specs.Sessions.{is_call_of}
use Rattle.sl_trace.specs.declared.session.Session.{Session}
use Rattle.sl_trace.specs.Traces.{Setting, Submitted, new_call, Answered}
use Rattle.sl_trace.specs.declared.effects.Call.{Call}
use Rattle.sl_trace.specs.declared.effects.Spot.{Spot}
use Rattle.sl_words.proofs.CaseLaws.{none_some, some_value, no_value}
use Rattle.std.proofs.Common.{ap, arith, inl, inr, refl, subst, sym, ◌∙◌}
use Rattle.std.proofs.lemmas.List.Elements.{Contains-append_right}
use Rattle.std.specs.Prelude.{Bool, List, None, Option, Some, cond, false, filter, find, is_some, length, option_map, true, [], ℕ, ◌&&◌, ◌++◌, ◌<◌, ◌∷◌, ◌≡◌, ◌≤◌, Contains, slice_index_or, suc, zero, ◌⊎◌}

-- ---- what ages keeps its block

aged_cond : (n : ℕ) (x y : Submitted) (xs ys : List Submitted) (b : Bool) → Aged n x y → AllAged n xs ys → AllAged n (cond b (x ∷ xs) xs) (cond b (y ∷ ys) ys)
aged_cond n x y xs ys true h hs = (h, hs)
aged_cond n x y xs ys false h hs = hs

-- A test of the call alone passes the same of them.
aged_kept : (n : ℕ) (p : Submitted → Bool) → ((x y : Submitted) → y.call ≡ x.call → p x ≡ p y) → (xs ys : List Submitted) → AllAged n xs ys → AllAged n (filter p xs) (filter p ys)
aged_kept n p stable [] [] h = tt
aged_kept n p stable [] (y ∷ ys) h = absurd h
aged_kept n p stable (x ∷ xs) [] h = absurd h
aged_kept n p stable (x ∷ xs) (y ∷ ys) h =
    subst (λ b. AllAged n (filter p (x ∷ xs)) (cond b (y ∷ filter p ys) (filter p ys))) (stable x y h.0.call)
    (aged_cond n x y (filter p xs) (filter p ys) (p x) h.0 (aged_kept n p stable xs ys h.1))

abbrev pub writes : Call → Option Block
writes c = block_written (new_call 0 0 c)

pub aged_block : (n : ℕ) (xs ys : List Submitted) → AllAged n xs ys → block_submitted xs ≡ block_submitted ys
aged_block n [] [] h = refl
aged_block n [] (y ∷ ys) h = absurd h
aged_block n (x ∷ xs) [] h = absurd h
aged_block n (x ∷ xs) (y ∷ ys) h =
    ap (λ o. elim o as (λ z. Option Block) [ Some b ↦ Some b | None ↦ block_submitted xs ]) (ap (λ c. writes c) (sym h.0.call))
    ∙ ap (λ r. elim (block_written y) as (λ z. Option Block) [ Some b ↦ Some b | None ↦ r ]) (aged_block n xs ys h.1)

pub aged_lease : (st : Setting) (s : Session) (at : Spot) (n : ℕ) (xs ys : List Submitted) → AllAged n xs ys → AllAged n (lease_among st s at xs) (lease_among st s at ys)
aged_lease st s at n xs ys h =
    aged_kept n (λ m. is_lease_call m && is_on st.layout at m.call) (λ x y is. ap (λ c. is_lease_call (new_call 0 0 c) && is_on st.layout at c) (sym is))
    (filter (is_call_of s) xs) (filter (is_call_of s) ys)
    (aged_kept n (is_call_of s) (λ x y is. ap (λ c. is_call_of s (new_call 0 0 c)) (sym is)) xs ys h)

-- ---- what ages

-- An answer stays.
answer_by : (n : ℕ) (was is : Submitted) (a : Answered) → was.answer ≡ Some a
    → (is.answer ≡ was.answer) ⊎ ((was.answer ≡ None) × (b : Answered) × (is.answer ≡ Some b) × (n ≤ b.at)) → is.answer ≡ Some a
answer_by n was is a told (inl h) = h ∙ told
answer_by n was is a told (inr h) = absurd (no_value a was.answer told h.0)

pub answer_stays : (n : ℕ) (was is : Submitted) (a : Answered) → Aged n was is → was.answer ≡ Some a → is.answer ≡ Some a
answer_stays n was is a h told = answer_by n was is a told h.answer

-- The bytes of all blocks that a call with this answer gave.
abbrev bytes_by : Layout → Call → Option Answered → Option (List ℕ)
bytes_by g c o = blocks_bytes g (record { at = 0; reading = 0; call = c; answer = o })

told_bytes : (g : Layout) (n : ℕ) (was is : Submitted) (bs : List ℕ) → Aged n was is → (o : Option Answered) → was.answer ≡ o → bytes_by g was.call o ≡ Some bs
    → blocks_bytes g is ≡ Some bs
told_bytes g n was is bs h None told gives = absurd (none_some bs gives)
told_bytes g n was is bs h (Some a) told gives =
    ap (λ c. bytes_by g c is.answer) h.call ∙ (ap (λ o. bytes_by g was.call o) (answer_stays n was is a h told) ∙ gives)

pub bytes_stay : (g : Layout) (n : ℕ) (was is : Submitted) (bs : List ℕ) → Aged n was is → blocks_bytes g was ≡ Some bs → blocks_bytes g is ≡ Some bs
bytes_stay g n was is bs h gives = told_bytes g n was is bs h was.answer refl gives

kept_by : (g : Layout) (n : ℕ) (was is : Submitted) (ps : List (Option PairBlock)) → Aged n was is → (o : Option (List ℕ)) → blocks_bytes g was ≡ o
    → option_map (pairs_kept g) o ≡ Some ps → option_map (pairs_kept g) (blocks_bytes g is) ≡ Some ps
kept_by g n was is ps h None told kept = absurd (none_some ps kept)
kept_by g n was is ps h (Some bs) told kept = ap (λ o. option_map (pairs_kept g) o) (bytes_stay g n was is bs h told) ∙ kept

before_stays : (g : Layout) (n : ℕ) (xs ys : List Submitted) (ps : List (Option PairBlock)) → AllAged n xs ys → kept_before g xs ≡ Some ps → kept_before g ys ≡ Some ps
before_stays g n [] [] ps h is = absurd (none_some ps is)
before_stays g n [] (y ∷ ys) ps h is = absurd h
before_stays g n (x ∷ xs) [] ps h is = absurd h
before_stays g n (x ∷ xs) (y ∷ ys) ps h is = kept_by g n x y ps h.0 (blocks_bytes g x) refl is

-- What is given of bytes that stay.
given_stays : (g : Layout) (again : Bool) (f f' : Option (List (Option PairBlock))) (o o' : Option (List ℕ)) (r : BlocksRead)
    → ((ps : List (Option PairBlock)) → f ≡ Some ps → f' ≡ Some ps)
    → ((bs : List ℕ) → o ≡ Some bs → o' ≡ Some bs) → given_with g again f o ≡ Some r → given_with g again f' o' ≡ Some r
given_stays g again f f' None o' r first here is = absurd (none_some r is)
given_stays g false f f' (Some bs) o' r first here is = ap (λ x. given_with g false f' x) (here bs refl) ∙ is
given_stays g true None f' (Some bs) o' r first here is = absurd (none_some r is)
given_stays g true (Some b) f' (Some bs) o' r first here is =
    ap (λ x. given_with g true f' x) (here bs refl) ∙ (ap (λ x. given_with g true x (Some bs)) (first b refl) ∙ is)

pub read_stays : (g : Layout) (n : ℕ) (was is : Submitted) (before before' : List Submitted) (r : BlocksRead) → Aged n was is → AllAged n before before'
    → read_given g was before ≡ Some r → read_given g is before' ≡ Some r
read_stays g n was is before before' r h rest gives =
    ap (λ c. given_with g (is_again (new_call 0 0 c)) (kept_before g before') (blocks_bytes g is)) h.call
    ∙ given_stays g (is_again was) (kept_before g before) (kept_before g before') (blocks_bytes g was) (blocks_bytes g is) r
    (λ ps. before_stays g n before before' ps rest) (λ bs. bytes_stay g n was is bs h) gives

told_blocks : (g : Layout) (n : ℕ) (was is : Submitted) (before before' : List Submitted) (bs : List (Option Block)) → Aged n was is → AllAged n before before'
    → (o : Option BlocksRead) → read_given g was before ≡ o → option_map (blocks_of g) o ≡ Some bs → blocks_given g is before' ≡ Some bs
told_blocks g n was is before before' bs h rest None told gives = absurd (none_some bs gives)
told_blocks g n was is before before' bs h rest (Some r) told gives =
    ap (λ o. option_map (blocks_of g) o) (read_stays g n was is before before' r h rest told) ∙ gives

pub blocks_stay : (g : Layout) (n : ℕ) (was is : Submitted) (before before' : List Submitted) (bs : List (Option Block)) → Aged n was is → AllAged n before before'
    → blocks_given g was before ≡ Some bs → blocks_given g is before' ≡ Some bs
blocks_stay g n was is before before' bs h rest gives = told_blocks g n was is before before' bs h rest (read_given g was before) refl gives

pub kind_stays : (k : StepKind) (n : ℕ) (was is : Submitted) → Aged n was is → is_at k was ≡ true → is_at k is ≡ true
kind_stays k n was is h at = ap (λ c. is_at k (new_call 0 0 c)) h.call ∙ at

pub block_stays : (n : ℕ) (was is : Submitted) (b : Block) → Aged n was is → block_written was ≡ Some b → block_written is ≡ Some b
block_stays n was is b h wrote = ap (λ c. writes c) h.call ∙ wrote

-- What became of a call in a list.
pub record Became (n : ℕ) (ys : List Submitted) (was : Submitted) : Type 0 where
  pub now : Submitted
  pub has : Contains ys now
  pub aged : Aged n was now

became_later : (n : ℕ) (y : Submitted) (ys : List Submitted) (was : Submitted) → Became n ys was → Became n (y ∷ ys) was
became_later n y ys was h = let k : ℕ = h.has.0 in record { now = h.now; has = (suc k, (let less : k < length ys = h.has.1 in omega (arith, less)), h.has.2); aged = h.aged }

became_at : (n : ℕ) (xs ys : List Submitted) (was : Submitted) → AllAged n xs ys → (k : ℕ) → k < length xs → slice_index_or xs k was ≡ was → Became n ys was
became_at n [] ys was h k less is = absurd (omega (arith, less))
became_at n (x ∷ xs) [] was h k less is = absurd h
became_at n (x ∷ xs) (y ∷ ys) was h zero less is =
    record { now = y; has = (0, omega arith, refl); aged = subst (λ z. Aged n z y) is h.0 }
became_at n (x ∷ xs) (y ∷ ys) was h (suc k) less is = became_later n y ys was (became_at n xs ys was h.1 k (omega (arith, less)) is)

pub became : (n : ℕ) (xs ys : List Submitted) (was : Submitted) → AllAged n xs ys → Contains xs was → Became n ys was
became n xs ys was h c = became_at n xs ys was h c.0 c.1 c.2

-- What became of a call in a list, and of those before it.
pub record BecameAmong (n : ℕ) (ys : List Submitted) (was : Submitted) (older : List Submitted) : Type 0 where
  pub now : Submitted
  pub newer : List Submitted
  pub before : List Submitted
  pub split : ys ≡ newer ++ now ∷ before
  pub aged : Aged n was now
  pub rest : AllAged n older before

later_among : (n : ℕ) (y : Submitted) (ys : List Submitted) (was : Submitted) (older : List Submitted) → BecameAmong n ys was older → BecameAmong n (y ∷ ys) was older
later_among n y ys was older b =
    record { now = b.now; newer = y ∷ b.newer; before = b.before; split = ap (λ xs. y ∷ xs) b.split; aged = b.aged; rest = b.rest }

pub became_among : (n : ℕ) (after older : List Submitted) (was : Submitted) (ys : List Submitted) → AllAged n (after ++ was ∷ older) ys → BecameAmong n ys was older
became_among n [] older was [] h = absurd h
became_among n [] older was (y ∷ ys) h = record { now = y; newer = []; before = ys; split = refl; aged = h.0; rest = h.1 }
became_among n (x ∷ after) older was [] h = absurd h
became_among n (x ∷ after) older was (y ∷ ys) h = later_among n y ys was older (became_among n after older was ys h.1)

-- It is among them.
pub among : (n : ℕ) (ys : List Submitted) (was : Submitted) (older : List Submitted) → (b : BecameAmong n ys was older) → Contains ys b.now
among n ys was older b =
    subst (λ zs. Contains zs b.now) (sym b.split) (Contains-append_right b.newer (b.now ∷ b.before) b.now (0, omega arith, refl))

-- What became of the newest block write.
pub record BecameLast (n : ℕ) (ys : List Submitted) (was : Submitted) : Type 0 where
  pub now : Submitted
  pub last : find (λ d. is_some (block_written d)) ys ≡ Some now
  pub aged : Aged n was now

last_by : (n : ℕ) (x y : Submitted) (xs ys : List Submitted) (was : Submitted) → Aged n x y → (b : Bool) → is_some (block_written x) ≡ b
    → cond b (Some x) (find (λ d. is_some (block_written d)) xs) ≡ Some was
    → (find (λ d. is_some (block_written d)) xs ≡ Some was → BecameLast n ys was) → BecameLast n (y ∷ ys) was
last_by n x y xs ys was h true is found later =
    record {
      now = y;
      last = ap (λ t. cond t (Some y) (find (λ d. is_some (block_written d)) ys)) (ap (λ c. is_some (writes c)) h.call ∙ is);
      aged = subst (λ z. Aged n z y) (some_value x was found) h;
    }
last_by n x y xs ys was h false is found later =
    let rest : BecameLast n ys was = later found in
    record {
      now = rest.now;
      last = ap (λ t. cond t (Some y) (find (λ d. is_some (block_written d)) ys)) (ap (λ c. is_some (writes c)) h.call ∙ is) ∙ rest.last;
      aged = rest.aged;
    }

pub became_last : (n : ℕ) (xs ys : List Submitted) (was : Submitted) → AllAged n xs ys → find (λ d. is_some (block_written d)) xs ≡ Some was → BecameLast n ys was
became_last n [] ys was h found = absurd (none_some was found)
became_last n (x ∷ xs) [] was h found = absurd h
became_last n (x ∷ xs) (y ∷ ys) was h found =
    last_by n x y xs ys was h.0 (is_some (block_written x)) refl found (λ f. became_last n xs ys was h.1 f)

pub after_stays : (n k : ℕ) (write read write' read' : Submitted) → Aged n write write' → read'.at ≡ read.at → ReadAfter write read → ReadAfter write' read'
after_stays n k write read write' read' h at o =
    record {
      answer = o.answer;
      answered = (answer_stays n write write' o.answer h o.answered.0, o.answered.1);
      later = let by : o.answer.at ≤ read.at = o.later in omega (arith, by, at);
    }

pub first_stays : (n : ℕ) (write read write' read' : Submitted) (before before' : List Submitted) → Aged n write write' → Aged n read read' → AllAged n before before'
    → FirstAfter write read before → FirstAfter write' read' before'
first_stays n write read write' read' [] [] hw hr h old = λ again first is. absurd (none_some first is)
first_stays n write read write' read' [] (y ∷ ys) hw hr h old = absurd h
first_stays n write read write' read' (x ∷ xs) [] hw hr h old = absurd h
first_stays n write read write' read' (x ∷ xs) (y ∷ ys) hw hr h old = λ again first is.
    let was : ReadAfter write x = old (ap (λ c. is_again (new_call 0 0 c)) (sym hr.call) ∙ again) x refl in
    subst (λ z. ReadAfter write' z) (some_value y first is) (after_stays n 0 write x write' y hw h.0.at was)

-- ---- a block that was found

pub found_stays : (g : Layout) (n id : ℕ) (xs ys : List Submitted) (own : Block) → AllAged n xs ys → FoundIn g id xs own → FoundIn g id ys own
found_stays g n id xs ys own h f =
    let r : BecameAmong n ys f.read f.before = became_among n f.newer f.before f.read ys (subst (λ zs. AllAged n zs ys) f.split h) in
    record {
      read = r.now;
      blocks = f.blocks;
      has = among n ys f.read f.before r;
      newer = r.newer;
      before = r.before;
      split = r.split;
      given = blocks_stay g n f.read r.now f.before r.before f.blocks r.aged r.rest f.given;
      block = f.block;
    }
