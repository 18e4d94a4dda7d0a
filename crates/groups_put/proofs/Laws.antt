-- What a group and its header leave in the buffer. Assumes nothing.
use Prim.Native.Nat.{ℕ, ◌+◌, ◌-◌, ◌*◌, ◌/◌, ◌≤◌, ◌<◌}
use mathlib.Core.Path.{◌≡◌, sym, ◌∙◌}
use mathlib.Core.List.{List, ◌++◌}
use native.Mathlib.Omega.{arith}
use lib.ListN.{length, take, drop, replicate}
use lib.Seq.{take_at, length-take-le, take-take}
use borrow.Author.Tests.{lt-ltb, le-ltb}
use Rattle.format.specs.declared.Form.{Form}
use Rattle.format.specs.Units.{domain}
use Rattle.groups.specs.Grouping.{head_units, head_sextets, spelled, group_of, group_size}
use Rattle.groups_claims.proofs.Heads.{head-length}
use Rattle.groups_claims.proofs.Calls.{spelled-length}
use Rattle.groups_header.specs.Header.{head_bytes}
use Rattle.groups_put.specs.Put.{put_group}

-- ---- a group around a body of this length

module _ (f : Form) (l len : ℕ) (buf : List ℕ) where
  abbrev n : ℕ
  n = len / (domain f).unit

  abbrev size : ℕ
  size = group_size (domain f) len

  not-less : len ≤ size
  unfolding group_size
  not-less = omega arith

  pub not_there : length buf < len → buf ≡ put_group f l len buf
  unfolding put_group
  not_there g = rw (lt-ltb (length buf) size (omega (arith, not-less)))

  module _ (there : len ≤ length buf) (h : ℕ) (head : (h ≡ head_units n * (domain f).unit) × (h ≤ 8)) where
    sized : h + len ≡ size
    unfolding group_size
    sized = rw head.0

    pub no_room : length buf - len < h → buf ≡ put_group f l len buf
    unfolding put_group
    no_room g = rw (lt-ltb (length buf) size (omega (arith, sized)))

    module _ (room : h ≤ length buf - len) where
      pub fits-front : (h ≤ 8) × (h ≤ h + len) × (h + len ≤ length buf)
      fits-front = (head.1, omega arith, omega arith)

      header_is : take h (head_bytes f l n) ≡ spelled f (head_sextets l n)
      unfolding head_bytes
      header_is =
          take-take h 8 (spelled f (head_sextets l n) ++ replicate 8 0) head.1
          ∙ take_at (spelled f (head_sextets l n)) (replicate 8 0) h
          (spelled-length f (head_sextets l n) (head_units n) (head-length l n) ∙ sym head.0)

      pub is-group : (m : ℕ) (b z : List ℕ) → m ≡ n → b ≡ head_bytes f l m
          → z ≡ (take h b ++ take (h + len - h) buf) ++ drop (h + len) buf → z ≡ put_group f l len buf
      unfolding put_group group_of
      is-group m b z e q r =
          let k : h + len - h ≡ len = omega arith in
          let own : length (take len buf) ≡ len = length-take-le len buf there in
          let fits : size ≤ length buf = omega (arith, sized) in
          r ∙ rw (k, sized, q, e, header_is, own, le-ltb (length buf) size fits)
