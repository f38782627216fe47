-- What stops no ballot: no block that the ballot goes by is torn, of a later instance, or of a greater number.
use Rattle.sl_trace.specs.Ballots.{ballot_blocks, block_ahead, block_rival, known_block, stop_among, stop_of, torn_host, whole_blocks, with_own}
use Rattle.sl_trace.specs.declared.lease.Stop.{Stop}
use Rattle.sl_trace.specs.declared.lease.Stop.TheVariants.{BlockAhead, BlockRival, BlockTorn}
use Rattle.sl_words.proofs.Lists.{contains_first, contains_more, find_fails}
use Rattle.sl_sector.specs.declared.sector.Block.{Block}
use Rattle.sl_words.proofs.CaseLaws.{none_some, some_value}
use Rattle.std.proofs.Common.{ap, arith, refl, subst, sym, ◌∙◌}
use Rattle.std.proofs.lemmas.Bool.{ltb-false}
use Rattle.std.proofs.lemmas.Bool.Decides.{nat_tests}
use Rattle.std.specs.List.{cons_option}
use Rattle.std.specs.Prelude.{Contains, List, None, Option, Some, [], false, nat_lt, option_map, slice_get, suc, zero, ℕ, ◌&&◌, ◌+◌, ◌==◌, ◌∷◌, ◌≡◌, ◌≤◌}

-- A host's place among the blocks, whole.
pub record IsWhole (ps : List (ℕ × Option Block)) (p : ℕ × Option Block) : Type 0 where
  pub block : Block
  pub is : p.1 ≡ Some block
  pub has : Contains (whole_blocks ps) block

one_further : (q : ℕ × Option Block) (ps : List (ℕ × Option Block)) (p : ℕ × Option Block) (o : Option Block) → q.1 ≡ o → IsWhole ps p → IsWhole (q ∷ ps) p
one_further q ps p None is w = record { block = w.block; is = w.is; has = subst (λ o. Contains (cons_option o (whole_blocks ps)) w.block) (sym is) w.has }
one_further q ps p (Some b) is w =
    record { block = w.block; is = w.is; has = subst (λ o. Contains (cons_option o (whole_blocks ps)) w.block) (sym is) (contains_more b (whole_blocks ps) w.block w.has) }

whole_by : (q : ℕ × Option Block) (ps : List (ℕ × Option Block)) (k : ℕ) (p : ℕ × Option Block) (o : Option Block) → q.1 ≡ o
    → elim o as (λ z. Option ℕ) [ None ↦ Some q.0 | Some b ↦ torn_host ps ] ≡ None → slice_get (q ∷ ps) k ≡ Some p
    → ((j : ℕ) → torn_host ps ≡ None → slice_get ps j ≡ Some p → IsWhole ps p) → IsWhole (q ∷ ps) p
whole_by q ps k p None is none at rest = absurd (none_some q.0 (sym none))
whole_by q ps zero p (Some b) is none at rest =
    record {
      block = b;
      is = ap (λ y. y.1) (sym (some_value q p at)) ∙ is;
      has = subst (λ o. Contains (cons_option o (whole_blocks ps)) b) (sym is) (contains_first b (whole_blocks ps));
    }
whole_by q ps (suc k) p (Some b) is none at rest = one_further q ps p (Some b) is (rest k none at)

pub all_whole : (ps : List (ℕ × Option Block)) (k : ℕ) (p : ℕ × Option Block) → torn_host ps ≡ None → slice_get ps k ≡ Some p → IsWhole ps p
all_whole [] k p none at = absurd (none_some p at)
all_whole (q ∷ ps) k p none at = whole_by q ps k p q.1 refl none at (λ j n a. all_whole ps j p n a)

-- The block of a host as the ballot takes it.
pub taken_at : (own : Block) (host : ℕ) (read : List (Option Block)) (k : ℕ) (o : Option Block) → slice_get read k ≡ Some o
    → slice_get (with_own own host read) k ≡ Some (host + k, known_block own o (host + k))
taken_at own host [] k o at = absurd (none_some o at)
taken_at own host (b ∷ bs) zero o at =
    let same : host ≡ host + 0 = omega arith in
    ap (λ x. Some (host, known_block own x host)) (some_value b o at) ∙ ap (λ n. Some (n, known_block own o n)) same
taken_at own host (b ∷ bs) (suc k) o at =
    let same : host + 1 + k ≡ host + suc k = omega arith in
    taken_at own (host + 1) bs k o at ∙ ap (λ n. Some (n, known_block own o n)) same

-- ---- nothing stops it

pub record IsClear (own : Block) (read : List (Option Block)) : Type 0 where
  pub whole : torn_host (with_own own 1 read) ≡ None
  pub lver : (b : Block) → Contains (ballot_blocks own read) b → b.lver ≤ own.lver
  pub mbal : (b : Block) → Contains (ballot_blocks own read) b → b.lver ≡ own.lver → b.mbal ≤ own.mbal

not_rival : (l m l' m' : ℕ) → (l' == l && nat_lt m m') ≡ false → l' ≡ l → m' ≤ m
not_rival l m l' m' h same = grind (arith, nat_tests)

mapped_none : {A B : Type 0} (f : A → B) (o : Option A) → option_map f o ≡ None → o ≡ None
mapped_none f None h = refl
mapped_none f (Some x) h = absurd (none_some (f x) (sym h))

among_by : (own : Block) (blocks : List Block) (o : Option Block) → block_ahead own blocks ≡ o
    → elim o as (λ z. Option Stop) [ Some b ↦ Some (BlockAhead b.host b.lver) | None ↦ option_map (λ b. BlockRival b.host b.mbal) (block_rival own blocks) ] ≡ None
    → (block_ahead own blocks ≡ None) × (block_rival own blocks ≡ None)
among_by own blocks None is h = (is, mapped_none (λ b. BlockRival b.host b.mbal) (block_rival own blocks) h)
among_by own blocks (Some b) is h = absurd (none_some (BlockAhead b.host b.lver) (sym h))

clear_by : (own : Block) (read : List (Option Block)) (o : Option ℕ) → torn_host (with_own own 1 read) ≡ o
    → elim o as (λ z. Option Stop) [ Some host ↦ Some (BlockTorn host) | None ↦ stop_among own (ballot_blocks own read) ] ≡ None → IsClear own read
clear_by own read None is h =
    let two = among_by own (ballot_blocks own read) (block_ahead own (ballot_blocks own read)) refl h in
    record {
      whole = is;
      lver = λ b has. ltb-false own.lver b.lver (find_fails (λ (x : Block). nat_lt own.lver x.lver) (ballot_blocks own read) b two.0 has);
      mbal = λ b has same. not_rival own.lver own.mbal b.lver b.mbal
          (find_fails (λ (x : Block). x.lver == own.lver && nat_lt own.mbal x.mbal) (ballot_blocks own read) b two.1 has) same;
    }
clear_by own read (Some host) is h = absurd (none_some (BlockTorn host) (sym h))

pub is_clear : (own : Block) (read : List (Option Block)) → stop_of own read ≡ None → IsClear own read
unfolding stop_of
is_clear own read h = clear_by own read (torn_host (with_own own 1 read)) refl h
