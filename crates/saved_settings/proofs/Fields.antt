-- What well formed fields have, and what a byte with a sign is. Assumes nothing.
use Rattle.std.proofs.Common.{◌≡◌, ℕ, zero, suc, ◌+◌, ◌-◌, ◌/◌, ◌%◌, ◌^◌, ◌<◌, ◌≤◌, Bool, true, false, cond, ◌&&◌, ◌||◌, T, eqb, ltb, leb, sym, refl, ap, ◌∙◌, subst, mod-eq_of_lt, arith, eqb→eq, ltb→lt, leb→le, ltb-false, ltb-true, le-ltb, lt-ltb, ne_eqb, eqb-true, leb-true}
use lib.Ieee.{nan, inf, binary64, odd, of_fields, of_bits}
use lib.Ieee.Fits.{and_l, and_r}
use Rattle.numbers.specs.Words.{finite}
use Rattle.saved_settings.specs.declared.SavedSettings.{SavedSettings}
use Rattle.saved_settings.specs.Records.{loop_right, finite_bits, pitch_right, well_formed, signed, has_loop_word, storable}

pub record WellFormed (s : SavedSettings) : Type 0 where
  pub start : s.start ≤ 4294967295
  pub loop_start_word : s.loop_start ≤ 4294967295
  pub loop_end_word : s.loop_end ≤ 4294967295
  pub reverse : s.reverse ≤ 255
  pub looped : has_loop_word s.loop_start s.loop_end ≡ s.has_loop
  pub pitch : pitch_right s.pitch ≡ true

is_true : (b : Bool) → T b → b ≡ true
is_true true t = refl
is_true false t = absurd t

looped_of : (s : SavedSettings) → T (loop_right s) → s.loop_end ≤ 4294967295 → (has_loop_word s.loop_start s.loop_end ≡ s.has_loop) × (s.loop_start ≤ 4294967295)
looped_of s t e = go (eqb s.has_loop 0) refl t
  where
    go : (b : Bool) → eqb s.has_loop 0 ≡ b
        → T (cond b (eqb s.loop_start 0 && eqb s.loop_end 0) (eqb s.has_loop 1 && ltb s.loop_start s.loop_end))
        → (has_loop_word s.loop_start s.loop_end ≡ s.has_loop) × (s.loop_start ≤ 4294967295)
    go true q u =
        let x = eqb→eq s.loop_start 0 (and_l (eqb s.loop_start 0) (eqb s.loop_end 0) u) in
        let y = eqb→eq s.loop_end 0 (and_r (eqb s.loop_start 0) (eqb s.loop_end 0) u) in
        (ap (λ (n : ℕ). has_loop_word n s.loop_end) x ∙ ap (has_loop_word 0) y ∙ sym (eqb-true s.has_loop 0 q), omega (arith, x))
    go false q u =
        let x = eqb→eq s.has_loop 1 (and_l (eqb s.has_loop 1) (ltb s.loop_start s.loop_end) u) in
        let y = ltb→lt s.loop_start s.loop_end (and_r (eqb s.has_loop 1) (ltb s.loop_start s.loop_end) u) in
        let z : eqb s.loop_end 0 ≡ false = ne_eqb s.loop_end 0 (λ w. omega (arith, y, w)) in
        (ap (λ (b : Bool). cond (eqb s.loop_start 0 && b) 0 1) z ∙ no (eqb s.loop_start 0) ∙ sym x, omega (arith, y, e))
      where
        no : (b : Bool) → ◌≡◌ {A = ℕ} (cond (b && false) 0 1) 1
        no true = refl
        no false = refl

pub well_formed_parts : (s : SavedSettings) → well_formed s ≡ true → WellFormed s
well_formed_parts s h =
    let a = loop_right s in
    let b = leb s.start 4294967295 in
    let c = leb s.loop_end 4294967295 in
    let d = leb s.reverse 1 in
    let e = finite_bits s.rate in
    let f = pitch_right s.pitch in
    let t : T (a && b && c && d && e && f) = subst T (sym h) tt in
    let t5 = and_l (a && b && c && d && e) f t in
    let t4 = and_l (a && b && c && d) e t5 in
    let t3 = and_l (a && b && c) d t4 in
    let t2 = and_l (a && b) c t3 in
    let end = leb→le s.loop_end 4294967295 (and_r (a && b) c t3) in
    let rev = leb→le s.reverse 1 (and_r (a && b && c) d t4) in
    let l = looped_of s (and_l a b t2) end in
    record {
      start = leb→le s.start 4294967295 (and_r a b t2);
      loop_start_word = l.1;
      loop_end_word = end;
      reverse = omega (arith, rev);
      looped = l.0;
      pitch = is_true f (and_r (a && b && c && d && e) f t);
    }

pub storable_parts : (version : ℕ) (s : SavedSettings) → storable version s ≡ true → (well_formed s ≡ true) × (cond (eqb version 1) (eqb s.pitch 0) (eqb version 2) ≡ true)
storable_parts version s h =
    let a = well_formed s in
    let b = cond (eqb version 1) (eqb s.pitch 0) (eqb version 2) in
    let t : T (a && b) = subst T (sym h) tt in
    (is_true a (and_l a b t), is_true b (and_r a b t))

-- ---- the pitch's byte

pub signed_back : (p : ℕ) → p < 2 ^ 64 → pitch_right p ≡ true → signed (p % 256) ≡ p
signed_back p l h = go (leb p 24) refl h
  where
    go : (b : Bool) → leb p 24 ≡ b → (b || leb 18446744073709551592 p) ≡ true → signed (p % 256) ≡ p
    go true q u =
        let k = leb-true p 24 q in
        let e : p % 256 ≡ p = omega (arith, k) in
        ap signed e ∙ ap (λ (c : Bool). cond c p ((p + 18446744073709551360) % 2 ^ 64)) (lt-ltb p 128 (omega (arith, k)))
    go false q u =
        let k = leb-true 18446744073709551592 p u in
        let e : p % 256 ≡ p - 18446744073709551360 = omega (arith, k, l) in
        let m : 128 ≤ p - 18446744073709551360 = omega (arith, k) in
        let r : p - 18446744073709551360 + 18446744073709551360 ≡ p = omega (arith, k) in
        ap signed e
        ∙ ap (λ (c : Bool). cond c (p - 18446744073709551360) ((p - 18446744073709551360 + 18446744073709551360) % 2 ^ 64)) (le-ltb (p - 18446744073709551360) 128 m)
        ∙ ap (λ (n : ℕ). n % 2 ^ 64) r ∙ mod-eq_of_lt l

pub byte_back : (b : ℕ) → b ≤ 255 → signed b % 256 ≡ b
byte_back b h = go (ltb b 128) refl
  where
    go : (c : Bool) → ltb b 128 ≡ c → cond c b ((b + 18446744073709551360) % 2 ^ 64) % 256 ≡ b
    go true q = omega (arith, h)
    go false q =
        let e : (b + 18446744073709551360) % 2 ^ 64 ≡ b + 18446744073709551360 = mod-eq_of_lt (omega (arith, h)) in
        ap (λ (n : ℕ). n % 256) e ∙ omega (arith, h)

-- ---- rates

odd_finite : (d : ℕ) (s : Bool) (q k l : ℕ) → finite (odd d s q k l) ≡ true
unfolding odd
odd_finite d s zero k l = refl
odd_finite d s (suc q) k l = refl

fields_finite : (s : Bool) (x t : ℕ) → x < 2047 → finite (of_fields binary64 s x t) ≡ true
unfolding of_fields
fields_finite s zero t h = odd_finite 53 s t 0 1074
fields_finite s (suc x) t h =
    ap (λ (b : Bool). finite (cond b (cond (eqb t 0) (inf s) nan) (odd 53 s (4503599627370496 + t) x 1074))) (ne_eqb (suc x) 2047 (λ e. omega (arith, h, e)))
    ∙ odd_finite 53 s (4503599627370496 + t) x 1074

fields_infinite : (s : Bool) (t : ℕ) → finite (of_fields binary64 s 2047 t) ≡ false
unfolding of_fields
fields_infinite s t = go (eqb t 0)
  where
    go : (b : Bool) → finite (cond b (inf s) nan) ≡ false
    go true = refl
    go false = refl

pub rates : (bits : ℕ) → finite_bits bits ≡ finite (of_bits binary64 bits)
unfolding of_bits
rates bits = go (ltb (bits % 9223372036854775808) 9218868437227405312) refl
  where
    go : (b : Bool) → ltb (bits % 9223372036854775808) 9218868437227405312 ≡ b
        → b ≡ finite (of_fields binary64 (leb 9223372036854775808 bits) (bits % 9223372036854775808 / 4503599627370496) (bits % 4503599627370496))
    go true q =
        let l = ltb-true (bits % 9223372036854775808) 9218868437227405312 q in
        let d : bits % 9223372036854775808 / 4503599627370496 < 2047 = omega (arith, l) in
        sym (fields_finite (leb 9223372036854775808 bits) (bits % 9223372036854775808 / 4503599627370496) (bits % 4503599627370496) d)
    go false q =
        let l = ltb-false (bits % 9223372036854775808) 9218868437227405312 q in
        let d : bits % 9223372036854775808 / 4503599627370496 ≡ 2047 = omega (arith, l) in
        sym (ap (λ (x : ℕ). finite (of_fields binary64 (leb 9223372036854775808 bits) x (bits % 4503599627370496))) d ∙ fields_infinite (leb 9223372036854775808 bits) (bits % 4503599627370496))
