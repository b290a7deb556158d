mod Platforms
mod Systems
mod SpelledSystems
