-- The three conditions hold.
-- Assumes nothing.
use Rattle.record.proofs.Promises.{document-numbers-fit, written-lists-read-back, written-buffer-reads-back, written-buffer-keeps-the-rest, read-record-is-written-again}
use Rattle.examples.proofs.Examples.{examples-hold}
use Rattle.live.proofs.Promises.{run-keeps-the-record}
use Rattle.live_questions.proofs.Promises.{run-answers-as-the-record}
use Rattle.conditions.specs.Conditions.{Conditions}
use Rattle.conditions.proofs.OrderLaws.{order-gives-one-number}
use Rattle.conditions.proofs.RecordRefusals.{bytes-refused-by-number, lists-refused-in-order, reading-refused-in-order, writing-refused-in-order, length-refused-in-order}
use Rattle.conditions.proofs.TableRefusals.{tables-refused-by-number, writing-out-refused-in-order, calls-refused-in-order, accepted-is-good}
use Rattle.conditions.proofs.QuestionRefusals.{questions-refused-in-order}
use Rattle.conditions.proofs.AnswerLaws.{seen-by-the-rules, agreed-by-the-rules}
use Rattle.conditions.proofs.Adopted.{any-good-table-answers, run-continues-a-good-table}
use Rattle.conditions.proofs.Honest.{honest-seats-are-told-alike, seen-edits-are-agreed}
use Rattle.conditions.proofs.EntryPoints.{entry-points}

pub conditions : Conditions
conditions = record {
  first = record {
    one_number = order-gives-one-number;
    bytes = bytes-refused-by-number;
    lists = lists-refused-in-order;
    reading = reading-refused-in-order;
    writing = writing-refused-in-order;
    lengths = length-refused-in-order;
    tables = tables-refused-by-number;
    writing-out = writing-out-refused-in-order;
    calls = calls-refused-in-order;
    questions = questions-refused-in-order;
    accepted = accepted-is-good;
  };
  second = record {
    seen = seen-by-the-rules;
    agreed = agreed-by-the-rules;
    examples = examples-hold;
    runs = run-keeps-the-record;
    run-answers = run-answers-as-the-record;
    any-table = any-good-table-answers;
    any-run = run-continues-a-good-table;
    numbers_fit = document-numbers-fit;
    read_back = written-lists-read-back;
    buffer-read-back = written-buffer-reads-back;
    buffer-rest = written-buffer-keeps-the-rest;
    written-again = read-record-is-written-again;
  };
  third = record { alike = honest-seats-are-told-alike; in-time = seen-edits-are-agreed };
  contracts = entry-points;
}
