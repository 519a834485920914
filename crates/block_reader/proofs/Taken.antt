-- What is taken, and that it is no single block: the promises of specs/Theorems.antt, proved.
use Prim.Native.Nat.{ℕ, ◌<◌, ◌≤◌}
use mathlib.Core.Path.{◌≡◌, refl, ap, sym, ◌∙◌}
use mathlib.Core.Logic.{inl}
use mathlib.Core.Option.{Option, some, none}
use mathlib.Core.List.{List, [], ◌∷◌}
use mathlib.Core.Bool.{Bool, true, false, cond}
use native.Mathlib.Omega.{arith}
use lib.Dec.{eqb, lit<, lit≤}
use lib.ListN.{length, get_or, replicate, length-replicate, get_or-replicate}
use borrow.Author.Tests.{eqb-true, eq-eqb}
use Rattle.wire.specs.Bytes.{Bytes, bytes-nil, bytes-cons}
use Rattle.wire.specs.Read.{done, not_done, bind_done, cond-done}
use Rattle.wire.proofs.EveryFormat.{every-format}
use Rattle.mapblock.specs.Data.{Block}
use Rattle.mapblock.specs.Layout.{since, all}
use Rattle.mapblock.specs.Block.{judged_whole, block, content_id, first_unmapped, judged, verdict}
use Rattle.mapblock.specs.Valid.{U32, Entries, Valid}
use Rattle.block_reader.specs.Theorems.{Reader, TakenBy, Taken, WritesBack, ReadsBack, GivesOne, TakesTwo, ShutOut}
use Rattle.mapblock.specs.declared.fault.Fault.TheVariants as fault
use Rattle.block_reader.proofs.ValidOk.{valid-is-ok}

-- ---- taken
judged-done : (b c : Block) (n m : ℕ) (o : Option ℕ) → judged all b n o ≡ done c m → (o ≡ none) × (b ≡ c) × (n ≡ m)
judged-done b c n m none h = (refl, (cc), (cc))
judged-done b c n m (some i) h = not_done h

pub taken : Taken
unfolding verdict
taken s b n w = (there, back)
  where
    there : verdict all s ≡ done b n → Valid b × (s ≡ (block all).encode b) × (n ≡ length s)
    there h =
        let x = bind_done ((block all).read s) (judged_whole all s) b n h in
        let y = cond-done (eqb x.1 (length s)) (judged all x.0 x.1 (first_unmapped all x.0)) fault.BytesAfter x.1 b n x.3 in
        let z = judged-done x.0 b x.1 n (first_unmapped all x.0) y.1 in
        let size : x.1 ≡ length s = eqb-true x.1 (length s) y.0 in
        let r : (block all).read s ≡ done b (length s) = x.2 ∙ ap (λ (c : Block). done c x.1) z.1 ∙ ap (done b) size in
        let k = ((every-format (block all)).accepted s b w).0 r in
        ((valid-is-ok b).1 (k.0, ap (first_unmapped all) (sym z.1) ∙ z.0), k.1, sym z.2 ∙ size)

    back : Valid b × (s ≡ (block all).encode b) × (n ≡ length s) → verdict all s ≡ done b n
    back (g, e, size) =
        let ok = (valid-is-ok b).0 g in
        let r : (block all).read s ≡ done b (length s) = ((every-format (block all)).accepted s b w).1 (ok.0, e) in
        rw (r, eq-eqb (length s) (length s) refl, ok.1, size)

-- what is taken was read to its end
pub taken-read : (s : List ℕ) (b : Block) (n : ℕ) → Bytes s → verdict all s ≡ done b n → (block all).read s ≡ done b n
taken-read s b n w h =
    let x = (taken s b n w).0 h in
    ((every-format (block all)).accepted s b w).1 (((valid-is-ok b).0 x.0).0, x.1) ∙ ap (done b) (sym x.2)

pub writes-back : WritesBack
writes-back s b n w h = sym ((taken s b n w).0 h).1

pub valid-bytes : (b : Block) → Valid b → Bytes ((block all).encode b)
valid-bytes b g = (block all).bytes b ((valid-is-ok b).0 g).0

-- by any reader of whom the same holds
pub read_back : (r : Reader) → TakenBy r → (b : Block) → Valid b → r ((block all).encode b) ≡ done b (length ((block all).encode b))
read_back r t b g = (t ((block all).encode b) b (length ((block all).encode b)) (valid-bytes b g)).1 (g, refl, refl)

pub reads-back : ReadsBack
reads-back = read_back (verdict all) taken

-- ---- all air
abbrev zeros : List ℕ
zeros = replicate 4096 0

zeros-at : (i : ℕ) → i < 4096 → get_or zeros i 0 ≡ 0
zeros-at i h = get_or-replicate 4096 i 0 0 h

zeros-below : (n : ℕ) → 0 < n → Entries n zeros
zeros-below n h = record { size = length-replicate {A = ℕ} 4096 0; each = λ i k. rw (zeros-at i k) h }

-- `air`
abbrev air : List ℕ
air = 97 ∷ 105 ∷ 114 ∷ []

air-bytes : Bytes air
air-bytes = bytes-cons 97 (105 ∷ 114 ∷ []) (lit< tt) (bytes-cons 105 (114 ∷ []) (lit< tt) (bytes-cons 114 [] (lit< tt) bytes-nil))

-- of a version, saved at a second
abbrev pub air_at : ℕ → ℕ → Block
air_at v t = record {
  head = record { version = v; flags = 0; lighting = 65535; timestamp = t; timer = 0; form = 0 };
  names = record { id = 0; name = air } ∷ [];
  nodes = record { param0 = zeros; param1 = zeros; param2 = zeros };
  metadata = [];
  objects = [];
  timers = [];
}

air-id : (v i : ℕ) → i < 4096 → content_id v (get_or zeros i 0) (get_or zeros i 0) ≡ 0
air-id v i h = rw (zeros-at i h) (by (since 24 v))
  where
    by : (c : Bool) → ◌≡◌ {A = ℕ} (cond c 0 0) 0
    by true = refl
    by false = refl

pub air-valid : (v t : ℕ) → 22 ≤ v → v ≤ 29 → U32 t → Valid (air_at v t)
air-valid v t h k l = record {
  head = record {
    version = (h, k);
    flags = lit< tt;
    lighting = lit< tt;
    lighting-before-27 = λ _. refl;
    timestamp = l;
    timer = omega arith;
    timer-except-24 = λ _. refl;
    form = omega arith;
    form-in-22 = λ _. refl;
  };
  nodes = record {
    param0-to-23 = λ _. zeros-below 256 (lit< tt);
    param0-from-24 = λ _. zeros-below 65536 (lit< tt);
    param1 = zeros-below 256 (lit< tt);
    param2 = zeros-below 256 (lit< tt);
  };
  names = record { count = lit< tt; each = (record { id = lit< tt; name = (lit< tt, air-bytes) }, tt) };
  metadata = record { count = lit< tt; each = tt };
  objects = record { count = lit< tt; each = tt };
  timers = record { count = lit< tt; each = tt };
  metadata-of-zero = λ _. refl;
  timers-before-24 = λ _. refl;
  timers-of-24 = λ _ _. refl;
  metadata-distinct = tt;
  timers-distinct = tt;
  ids-distinct = ((λ x. x), tt);
  ids-mapped = λ i j. inl (sym (air-id v i j));
}

-- ---- what may not slip through
takes_two : (r : Reader) → TakenBy r → (v : ℕ) → 22 ≤ v → v ≤ 29 → TakesTwo v r
takes_two r t v h k =
    let first = air-valid v 0 h k (lit< tt) in
    let second = air-valid v 1 h k (lit< tt) in
    record {
      s₁ = (block all).encode (air_at v 0);
      s₂ = (block all).encode (air_at v 1);
      b₁ = air_at v 0;
      b₂ = air_at v 1;
      bytes₁ = valid-bytes (air_at v 0) first;
      bytes₂ = valid-bytes (air_at v 1) second;
      taken₁ = read_back r t (air_at v 0) first;
      taken₂ = read_back r t (air_at v 1) second;
      version₁ = refl;
      version₂ = refl;
      differ = λ e. omega arith;
    }

pub shut_out : ShutOut
shut_out r t = ((λ h. let x = h two.s₁ two.bytes₁ in not_done (sym x.2 ∙ two.taken₁)), one, takes_two r t)
  where
    two : TakesTwo 29 r
    two = takes_two r t 29 (lit≤ tt) (lit≤ tt)

    one : GivesOne r → ⊥
    one (c, h) =
        let e : two.b₁ ≡ two.b₂ = h two.s₁ two.b₁ (length two.s₁) two.bytes₁ two.taken₁ ∙ sym (h two.s₂ two.b₂ (length two.s₂) two.bytes₂ two.taken₂) in
        two.differ (ap (λ (b : Block). b.head.timestamp) e)
