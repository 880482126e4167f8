-- Parts of what reads.
use Rattle.std.proofs.Common.{◌≡◌, ℕ, ◌+◌, ◌≤◌, List, [], ◌++◌, length, drop, refl, sym, ap, subst, arith, length-take, length-drop}
use Rattle.std.proofs.lemmas.List.{append-nil, nil_from_length}
use Rattle.im_disk.specs.Disk.{Files}
use Rattle.im_format.specs.Spans.{Reads}
use Rattle.im_alog.proofs.Torn.{part_reads}

-- the image has these octets at a place of a file
abbrev pub reads_at : Files → ℕ → ℕ → List ℕ → Type 0
reads_at image number place octets = Reads image (record { file = number; at = place; octets = octets })

pub front_reads : (image : Files) (number place : ℕ) (octets behind : List ℕ) → reads_at image number place (octets ++ behind) → reads_at image number place octets
front_reads image number place octets behind r = subst (λ (k : ℕ). reads_at image number k octets) (omega arith) (part_reads image number place [] octets behind r)

pub back_reads : (image : Files) (number place : ℕ) (before octets : List ℕ) → reads_at image number place (before ++ octets) → reads_at image number (place + length before) octets
back_reads image number place before octets r = part_reads image number place before octets [] (subst (λ (l : List ℕ). reads_at image number place l) (sym (append-nil (before ++ octets))) r)

pub none_reads : (image : Files) (number place : ℕ) (octets : List ℕ) → length octets ≡ 0 → reads_at image number place octets
none_reads image number place octets none = subst (λ (l : List ℕ). reads_at image number place l) (sym (nil_from_length octets none)) (record { reads = refl })

-- what reads doesn't reach past the end of its file
pub reads_long : (image : Files) (number place : ℕ) (octets : List ℕ) → reads_at image number place octets → place ≤ length (image number) → place + length octets ≤ length (image number)
reads_long image number place octets r le = omega (arith, ap length r.reads, length-take (length octets) (drop place (image number)), length-drop place (image number), le)
