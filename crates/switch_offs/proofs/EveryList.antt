-- The lists of the chip of every legal sheet report as one run reports. Assumes nothing.
use Rattle.upd546.specs.TwoRunners.{chip}
use Rattle.laws.proofs.Demand3.{every_list, every_run_counts_within}
use Rattle.laws.proofs.Records.{every_run_writes_records}
use Rattle.waiting.specs.EveryList.{EveryListReportsAsOneRun}
use Rattle.waiting.proofs.EveryList.{reports_as_one_run}

pub every_list_reports_as_one_run : EveryListReportsAsOneRun chip
every_list_reports_as_one_run = reports_as_one_run chip every_list every_run_counts_within every_run_writes_records
