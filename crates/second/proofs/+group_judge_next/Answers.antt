-- An item framed and judged, an item by its kind, and a group's items one by one: the cycle. Assumes nothing.
use Rattle.std.proofs.Common.{rules}
use Rattle.second.proofs.Groups.{next-none, size_fits, own-long, next-asks, next-some}
use Rattle.second.proofs.Groups.{judged-fixed, judged-variable, judged-indexed, judged-genus, judged-group, group-refused}
use Rattle.second.proofs.Groups.{left-start, left_end, left-unframed, end_fits, less, left-refused, left-on}
use Rattle.second.proofs.+group_judge_next.Goals as goal

pub group-returns-in-Refused : goal.group-returns-in-Refused
group-returns-in-Refused t c = search group-refused

pub group-loop-start-init : goal.group-loop-start-init
group-loop-start-init t c = search left-start

pub group-returns-in-Unframed : goal.group-returns-in-Unframed
group-returns-in-Unframed t c = search left-unframed

pub group-returns-in-Refused-verdict : goal.group-returns-in-Refused-verdict
group-returns-in-Refused-verdict t c = search left-refused

pub group-overflow_add-start-in-Item : goal.group-overflow_add-start-in-Item
group-overflow_add-start-in-Item t c = search end_fits

pub group-loop-start-smaller : goal.group-loop-start-smaller
group-loop-start-smaller t c = search less

pub group-loop-start-preserved : goal.group-loop-start-preserved
group-loop-start-preserved t c = search left-on

pub group-returns : goal.group-returns
group-returns t c = search left_end

pub judge-returns-in-Fixed : goal.judge-returns-in-Fixed
judge-returns-in-Fixed t c = search judged-fixed

pub judge-returns-in-Variable : goal.judge-returns-in-Variable
judge-returns-in-Variable t c = search judged-variable

pub judge-returns-in-Group : goal.judge-returns-in-Group
judge-returns-in-Group t c = search judged-group

pub judge-returns-in-Genus : goal.judge-returns-in-Genus
judge-returns-in-Genus t c = search judged-genus

pub judge-returns-in-Indexed : goal.judge-returns-in-Indexed
judge-returns-in-Indexed t c = search judged-indexed

pub next-overflow_mul-size : goal.next-overflow_mul-size
next-overflow_mul-size t c = search size_fits

pub next-slice_bounds-judge-end : goal.next-slice_bounds-judge-end
next-slice_bounds-judge-end t c = search own-long

pub next-judge-verdict-requires : goal.next-judge-verdict-requires
next-judge-verdict-requires t c = (search rules, search next-asks)

pub next-returns-in-Unframed : goal.next-returns-in-Unframed
next-returns-in-Unframed t c = search next-none

pub next-returns-in-Item : goal.next-returns-in-Item
next-returns-in-Item t c = search next-some
